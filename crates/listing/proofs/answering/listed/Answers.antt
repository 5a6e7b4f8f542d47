use Rattle.std.proofs.Common.{ℕ, drop, ap, ◌∙◌}
use Rattle.book.specs.Calls.{rows_of}
use Rattle.plan.specs.Table.{meaning_of}
use Rattle.listing.specs.Answers.{lines_of}
use Rattle.listing.proofs.answering.listed.Goals as goal

pub returns : goal.returns
returns c =
    let t = c.read.new.self in
    let b = c.open.new.self in
    let r = c.in_ok-read.ensures.reads in
    let o = c.in_ok-open.ensures in
    record {
      meaning = meaning_of t;
      writes = record { short = r.0; limits = r.1; spells = r.2 };
      book = b;
      opened = o;
      told = c.in_ok-all_rows.ensures ∙ ap (λ (k : ℕ). lines_of (drop k (rows_of b))) o.fresh.start;
    }
