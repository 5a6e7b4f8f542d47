use Rattle.theory.proofs.Classes.{class_named}
use Rattle.theory.proofs.classes_are_named.Goals as goal

pub returns : goal.returns
returns c = class_named
