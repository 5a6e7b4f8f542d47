use Rattle.naming.proofs.Bridge.{bridge}
use Rattle.naming.proofs.subtrees_are_crossed.Goals as goal

pub returns : goal.returns
returns c = bridge
