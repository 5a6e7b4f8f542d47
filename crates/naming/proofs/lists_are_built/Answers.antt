use Rattle.naming.proofs.Built.{built}
use Rattle.naming.proofs.lists_are_built.Goals as goal

pub returns : goal.returns
returns c = built
