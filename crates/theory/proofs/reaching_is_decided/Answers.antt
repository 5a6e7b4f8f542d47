use Rattle.theory.proofs.Reach.{reach_decided}
use Rattle.theory.proofs.reaching_is_decided.Goals as goal

pub returns : goal.returns
returns c = reach_decided
