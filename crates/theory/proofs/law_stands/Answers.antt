use Rattle.theory.proofs.Law.{law_stands}
use Rattle.theory.proofs.law_stands.Goals as goal

pub returns : goal.returns
returns c = law_stands
