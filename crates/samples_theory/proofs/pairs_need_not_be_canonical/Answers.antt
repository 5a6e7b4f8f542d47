use Rattle.samples_theory.proofs.Second.{pair_not_canonical}
use Rattle.samples_theory.proofs.pairs_need_not_be_canonical.Goals as goal

pub returns : goal.returns
returns c = pair_not_canonical
