use Rattle.theory.proofs.Insides.{fragments_nest}
use Rattle.theory.proofs.fragments_nest.Goals as goal

pub returns : goal.returns
returns c = fragments_nest
