use Rattle.theory.proofs.Belows.{below_by_parents}
use Rattle.theory.proofs.rows_below_are_told_by_parents.Goals as goal

pub returns : goal.returns
returns c = below_by_parents
