use Rattle.naming.proofs.Searched.{searched_stands}
use Rattle.naming.proofs.caps_are_numbered.Goals as goal

pub returns : goal.returns
returns c = searched_stands
