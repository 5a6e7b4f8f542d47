use Rattle.naming.proofs.Firsts.{firsts_stand}
use Rattle.naming.proofs.links_stand_for_names.Goals as goal

pub returns : goal.returns
returns c = firsts_stand
