use Rattle.theory.proofs.Orders.{leader_first}
use Rattle.theory.proofs.leaders_stand_first.Goals as goal

pub returns : goal.returns
returns c = leader_first
