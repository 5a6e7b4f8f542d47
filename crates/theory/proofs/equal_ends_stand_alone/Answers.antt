use Rattle.theory.proofs.Classes.{equal_ends_alone}
use Rattle.theory.proofs.equal_ends_stand_alone.Goals as goal

pub returns : goal.returns
returns c = equal_ends_alone
