use Rattle.samples_theory.proofs.Second.{inside_not_dominance}
use Rattle.samples_theory.proofs.inside_is_not_dominance.Goals as goal

pub returns : goal.returns
returns c = inside_not_dominance
