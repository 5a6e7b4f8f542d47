use Rattle.naming.proofs.Bounded.{lists_bounded}
use Rattle.naming.proofs.lists_are_bounded.Goals as goal

pub returns : goal.returns
returns c = lists_bounded
