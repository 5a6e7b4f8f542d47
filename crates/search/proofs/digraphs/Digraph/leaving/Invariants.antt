use Rattle.std.proofs.Common.{◌≡◌, map, length}
use Rattle.lists.specs.Many.{Reads}
use Rattle.model.specs.Meaning.{pair_of}
use Rattle.search.specs.Searched.{leaving}
use Rattle.search.proofs.digraphs.Digraph.leaving.Given as goal

abbrev pub invariant-loop-i : goal.invariant-loop-i
invariant-loop-i l = (length l.lists ≡ l.self.steps) × Reads l.lists (leaving (map pair_of l.self.links.now) l.i)
