use Rattle.std.proofs.Common.{◌+◌, ◌*◌, map, length, sum_by, vec_items}
use Rattle.model.specs.Meaning.{pair_of}
use Rattle.search.proofs.Ordering.{Inv}
use Rattle.search.proofs.digraphs.Digraph.order_from.Given as goal

abbrev pub invariant-turn : goal.invariant-turn
invariant-turn l =
    Inv (map pair_of l.self.links.now) l.self.steps l.fn.start.0 (vec_items l.order) (vec_items l.reach.reached) l.reach.queue.items l.left

abbrev pub decreases-turn : goal.decreases-turn
decreases-turn l = 2 * sum_by length l.left + length l.reach.queue.items
