use Rattle.std.proofs.Common.{vec_items}
use Rattle.lists.specs.Many.{row}
use Rattle.search.specs.Spans.{link_of}
use Rattle.brackets.specs.Method.{links_of, visits_of, size_of, number_of}
use Rattle.brackets.specs.Swept.{Begun}
use Rattle.brackets.proofs.holding.Sweep.new.Given as goal

abbrev pub invariant-loop-l : goal.invariant-loop-l
invariant-loop-l l = Begun (links_of l.search) (size_of l.search) (number_of l.search) (link_of (visits_of l.search)) l.l (row l.sweep.brackets) (vec_items l.sweep.levels)
