use Rattle.theory.proofs.Plain.{own_branches}
use Rattle.theory.proofs.own_steps_branch.Goals as goal

pub returns : goal.returns
returns c = own_branches
