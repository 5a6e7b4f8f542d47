use Rattle.samples_theory.proofs.Second.{both_are_needed}
use Rattle.samples_theory.proofs.sharing_and_leading_are_both_needed.Goals as goal

pub returns : goal.returns
returns c = both_are_needed
