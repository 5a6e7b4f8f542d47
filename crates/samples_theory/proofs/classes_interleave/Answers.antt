use Rattle.samples_theory.proofs.Second.{classes_interleave}
use Rattle.samples_theory.proofs.classes_interleave.Goals as goal

pub returns : goal.returns
returns c = classes_interleave
