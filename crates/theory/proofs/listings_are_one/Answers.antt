use Rattle.theory.proofs.Unique.{unique}
use Rattle.theory.proofs.listings_are_one.Goals as goal

pub returns : goal.returns
returns c = unique
