use Rattle.std.proofs.Common.{inl, inr, ⊎_elim}
use Rattle.std.proofs.lemmas.Result.{err_from_is_err_and}
use Rattle.plan.specs.Drafts.{told_by}
use Rattle.plan.proofs.Drafted.{begun}
use Rattle.plan.proofs.Told.{stray}
use Rattle.plan.proofs.gateway.reading.draft_of.Goals as goal

pub returns-in_err-draft : goal.returns-in_err-draft
returns-in_err-draft c =
    let p = err_from_is_err_and c.from_residual.result c.from_residual.ensures.1 in
    let d = c.loop-frame.draft in
    rw (p.1, p.2) (⊎_elim
    (λ faulty. inl (stray c.args.frames.now c.loop-frame.frame-index c.frame-item.result (told_by d) _
    c.loop-frame-test.true c.frame-item.is c.requires c.loop-frame.invariant (begun d) faulty))
    inr c.in_err-draft.ensures)
