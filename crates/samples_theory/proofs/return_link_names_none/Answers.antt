use Rattle.samples_theory.proofs.Second.{return_names_none}
use Rattle.samples_theory.proofs.return_link_names_none.Goals as goal

pub returns : goal.returns
returns c = return_names_none
