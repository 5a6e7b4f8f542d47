use Rattle.naming.proofs.Caps.{cap_to_itself}
use Rattle.naming.proofs.caps_never_end_where_they_begin.Goals as goal

pub returns : goal.returns
returns c = cap_to_itself
