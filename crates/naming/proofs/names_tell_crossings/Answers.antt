use Rattle.naming.proofs.Crossing.{names_cross}
use Rattle.naming.proofs.names_tell_crossings.Goals as goal

pub returns : goal.returns
returns c = names_cross
