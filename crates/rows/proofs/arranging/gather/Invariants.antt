use Rattle.std.proofs.Common.{◌≡◌, length, set}
use Rattle.std.specs.List.{All}
use Rattle.lists.specs.Many.{row}
use Rattle.rows.specs.Orders.{After, gathered}
use Rattle.rows.proofs.arranging.gather.Given as goal

abbrev pub invariant-loop-child : goal.invariant-loop-child
invariant-loop-child l = record {
  long : length l.below ≡ length l.initial.below;
  same : l.children ≡ set l.initial.children l.k (row l.children l.k);
  after : All (After (length l.initial.below) l.k) (row l.children l.k);
  left : gathered l.below l.k (row l.children l.k) ≡ gathered l.initial.below l.k (row l.initial.children l.k);
}

abbrev pub decreases-loop-child : goal.decreases-loop-child
decreases-loop-child l = length (row l.children l.k)
