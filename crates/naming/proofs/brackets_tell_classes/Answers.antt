use Rattle.naming.proofs.Parity.{brackets_tell}
use Rattle.naming.proofs.brackets_tell_classes.Goals as goal

pub returns : goal.returns
returns c = brackets_tell
