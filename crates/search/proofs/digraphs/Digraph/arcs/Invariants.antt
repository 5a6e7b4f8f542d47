use Rattle.std.proofs.Common.{◌≡◌, map, length}
use Rattle.lists.specs.Many.{Reads}
use Rattle.model.specs.Meaning.{pair_of}
use Rattle.search.specs.Joined.{arcs_of}
use Rattle.search.proofs.digraphs.Digraph.arcs.Given as goal

abbrev pub invariant-loop-i : goal.invariant-loop-i
invariant-loop-i l = (length l.arcs ≡ l.self.steps) × Reads l.arcs (arcs_of (map pair_of l.self.links.now) l.i)
