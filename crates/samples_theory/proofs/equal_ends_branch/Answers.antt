use Rattle.samples_theory.proofs.Second.{equal_ends_branch}
use Rattle.samples_theory.proofs.equal_ends_branch.Goals as goal

pub returns : goal.returns
returns c = equal_ends_branch
