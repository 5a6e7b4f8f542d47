use Rattle.std.proofs.Common.{◌≡◌, append_assoc, rules}
use Rattle.std.specs.Option.{option_map}
use Rattle.lines.specs.Lines.{row_bytes}
use Rattle.lines.proofs.writing.row_line.Goals as goal

pub returns : goal.returns
returns c =
    let row = c.args.row in
    let parent : c.map.result ≡ option_map (λ r. r.0) row.parent = search rules in
    let entry : c.map-2.result ≡ option_map (λ l. l.0) row.entry = search rules in
    let exit : c.map-3.result ≡ option_map (λ l. l.0) row.exit = search rules in
    let all : c.number-2.new.self ≡ row_bytes row =
    simp (c.number-2.ensures.written, c.number_or_dash-3.ensures.written, c.number_or_dash-2.ensures.written, c.word-2.ensures.written, c.number_or_dash.ensures.written, c.number.ensures.written, c.new-line.ensures, c.word.ensures, parent, entry, exit, append_assoc) in
    rw (← all) c.copy_to.ensures
