use Rattle.samples_theory.proofs.Second.{classes_differ}
use Rattle.samples_theory.proofs.classes_differ.Goals as goal

pub returns : goal.returns
returns c = classes_differ
