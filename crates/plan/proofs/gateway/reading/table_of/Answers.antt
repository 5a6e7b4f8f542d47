use Rattle.std.proofs.Common.{map, length, ap, ◌∙◌}
use Rattle.std.proofs.lemmas.Result.{err_from_is_err_and}
use Rattle.text.specs.Decoded.{bytes_of}
use Rattle.plan.proofs.Told.{finished, line_refused, spelling_refused}
use Rattle.plan.proofs.gateway.reading.table_of.Goals as goal

pub returns-in_err-draft : goal.returns-in_err-draft
returns-in_err-draft c =
    let p = err_from_is_err_and c.from_residual-in_err-draft.result c.from_residual-in_err-draft.ensures.1 in
    rw (p.1, p.2) (line_refused c.args.text.now c.in_ok-out.out c.deref.result.now _ c.in_ok-out.ensures c.deref.ensures.value c.in_err-draft.ensures)

pub returns-in_err-out-2 : goal.returns-in_err-out-2
returns-in_err-out-2 c =
    let p = err_from_is_err_and c.from_residual-in_err-out-2.result c.from_residual-in_err-out-2.ensures.1 in
    let told = c.in_ok-draft.ensures in
    rw (p.1, p.2) (spelling_refused c.args.text.now c.in_ok-out.out c.deref.result.now c.in_ok-draft.draft c.in_err-out-2.field-0.0
    c.in_ok-out.ensures c.deref.ensures.value c.in_err-out-2.was told)

pub returns : goal.returns
returns c =
    let told = c.in_ok-draft.ensures in
    finished c.args.text.now c.in_ok-out.out c.in_ok-draft.draft c.last_line.result c.finish.result
    c.in_ok-out.ensures c.in_ok-out-2.was (told ∙ ap (map bytes_of) c.deref.ensures.value) (c.last_line.ensures ∙ ap length c.deref-2.ensures.value) c.finish.ensures
