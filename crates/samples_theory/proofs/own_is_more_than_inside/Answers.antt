use Rattle.samples_theory.proofs.Second.{own_is_more}
use Rattle.samples_theory.proofs.own_is_more_than_inside.Goals as goal

pub returns : goal.returns
returns c = own_is_more
