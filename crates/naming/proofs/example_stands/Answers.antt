use Rattle.naming.proofs.Bridge.{example_stands}
use Rattle.naming.proofs.example_stands.Goals as goal

pub returns : goal.returns
returns c = example_stands
