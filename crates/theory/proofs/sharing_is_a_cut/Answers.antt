use Rattle.theory.proofs.Plans.{share_is_cut}
use Rattle.theory.proofs.sharing_is_a_cut.Goals as goal

pub returns : goal.returns
returns c = share_is_cut
