use Rattle.samples_theory.proofs.Second.{further_stand}
use Rattle.samples_theory.proofs.further_samples_stand.Goals as goal

pub returns : goal.returns
returns c = further_stand
