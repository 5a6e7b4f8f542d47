use Rattle.theory.proofs.Belows.{the_least}
use Rattle.theory.proofs.parents_are_least.Goals as goal

pub returns : goal.returns
returns c = the_least
