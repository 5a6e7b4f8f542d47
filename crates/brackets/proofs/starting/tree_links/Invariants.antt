use Rattle.std.proofs.Common.{◌≡◌, ℕ, ◌+◌, false, length, get_or, vec_items}
use Rattle.naming.specs.DepthFirst.{of_tree}
use Rattle.search.specs.Spans.{link_of}
use Rattle.brackets.proofs.starting.tree_links.Given as goal

abbrev pub invariant-loop-visit : goal.invariant-loop-visit
invariant-loop-visit l =
    (length (vec_items l.in_tree) ≡ l.links)
    × ((e : ℕ) → get_or (vec_items l.in_tree) e false ≡ of_tree (link_of l.visits) (length l.yielded + 1) e)
