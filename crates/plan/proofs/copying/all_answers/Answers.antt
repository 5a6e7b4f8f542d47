use Rattle.std.proofs.Common.{vec_items, arith}
use Rattle.plan.proofs.Asked.{all_told, none_before}
use Rattle.plan.proofs.copying.all_answers.Goals as goal
use Rattle.plan.proofs.copying.all_answers.Goals.{else-loop-number-test, then-loop-number-test+in_default}

pub returns : goal.returns
returns g c =
    let told = c.loop-number.invariant in
    let all = vec_items c.loop-number.all in
    elim c.loop-number-test.branch [
      | else-loop-number-test w ↦ absurd (none_before (goal.F-post g c.args.ask) all c.requires.ends.0 c.loop-number.number told.0 (omega (arith, w.loop-number-test.false, c.requires.ends.1)) told.1 c.requires.ends.2)
      | then-loop-number-test+in_default w ↦ all_told (goal.F-post g c.args.ask) all c.loop-number.number told.0 told.1 w.in_default.ensures
    ]
