use Rattle.std.proofs.Common.{◌+◌, ◌*◌, map, length, sum_by, vec_items}
use Rattle.model.specs.Meaning.{pair_of}
use Rattle.search.proofs.Turns.{Inv}
use Rattle.search.proofs.digraphs.Digraph.explore.Given as goal

abbrev pub invariant-turn : goal.invariant-turn
invariant-turn l =
    Inv (map pair_of l.self.links.now) l.self.steps l.fn.root.0 (vec_items l.tree.number) (vec_items l.tree.visits) l.arcs l.top

abbrev pub decreases-turn : goal.decreases-turn
decreases-turn l = 65536 * sum_by length l.arcs + l.top
