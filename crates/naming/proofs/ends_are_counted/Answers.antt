use Rattle.naming.proofs.Ended.{ends_counted}
use Rattle.naming.proofs.ends_are_counted.Goals as goal

pub returns : goal.returns
returns c = ends_counted
