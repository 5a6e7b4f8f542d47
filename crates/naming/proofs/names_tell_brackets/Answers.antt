use Rattle.naming.proofs.Named.{named}
use Rattle.naming.proofs.names_tell_brackets.Goals as goal

pub returns : goal.returns
returns c = named
