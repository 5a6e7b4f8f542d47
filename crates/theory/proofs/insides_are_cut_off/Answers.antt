use Rattle.theory.proofs.Insides.{inside_cut_off}
use Rattle.theory.proofs.insides_are_cut_off.Goals as goal

pub returns : goal.returns
returns c = inside_cut_off
