use Rattle.naming.proofs.Turns.{turns}
use Rattle.naming.proofs.turns_stand.Goals as goal

pub returns : goal.returns
returns c = turns
