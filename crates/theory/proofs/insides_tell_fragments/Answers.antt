use Rattle.theory.proofs.Insides.{inside_tells}
use Rattle.theory.proofs.insides_tell_fragments.Goals as goal

pub returns : goal.returns
returns c = inside_tells
