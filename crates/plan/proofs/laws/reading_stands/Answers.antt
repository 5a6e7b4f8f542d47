use Rattle.plan.proofs.Determined.{one_reading}
use Rattle.plan.proofs.laws.reading_stands.Goals as goal

pub returns : goal.returns
returns c = one_reading
