use Rattle.naming.proofs.DepthFirst.{depth_first_numbered}
use Rattle.naming.proofs.trees_are_searches.Goals as goal

pub returns : goal.returns
returns c = depth_first_numbered
