use Rattle.samples_theory.proofs.Sampled.{samples_stand}
use Rattle.samples_theory.proofs.samples_stand.Goals as goal

pub returns : goal.returns
returns c = samples_stand
