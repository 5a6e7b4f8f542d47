use Rattle.samples_theory.proofs.Second.{soundness_refuses}
use Rattle.samples_theory.proofs.unsound_plans_are_refused.Goals as goal

pub returns : goal.returns
returns c = soundness_refuses
