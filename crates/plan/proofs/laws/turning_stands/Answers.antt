use Rattle.plan.proofs.Answered.{turned_twice}
use Rattle.plan.proofs.laws.turning_stands.Goals as goal

pub returns : goal.returns
returns c = turned_twice
