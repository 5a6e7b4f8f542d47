use Rattle.theory.proofs.Orders.{fragments_neighbours}
use Rattle.theory.proofs.fragments_are_neighbours.Goals as goal

pub returns : goal.returns
returns c = fragments_neighbours
