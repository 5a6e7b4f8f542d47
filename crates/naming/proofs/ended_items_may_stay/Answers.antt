use Rattle.naming.proofs.Carried.{carried}
use Rattle.naming.proofs.ended_items_may_stay.Goals as goal

pub returns : goal.returns
returns c = carried
