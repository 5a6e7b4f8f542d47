use Rattle.naming.proofs.Classes.{names_tell_classes}
use Rattle.naming.proofs.names_tell_classes.Goals as goal

pub returns : goal.returns
returns c = names_tell_classes
