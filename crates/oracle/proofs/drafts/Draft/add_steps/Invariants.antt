use Rattle.std.proofs.Common.{◌+◌, ◌≤◌, vec_len}
use Rattle.oracle.specs.declared.drafts.TheConstants.{MOST_STEPS}
use Rattle.oracle.proofs.drafts.Draft.add_steps.Given as goal

abbrev pub invariant-loop-step : goal.invariant-loop-step
invariant-loop-step l = vec_len l.self.logics + l.count ≤ MOST_STEPS + l._step
