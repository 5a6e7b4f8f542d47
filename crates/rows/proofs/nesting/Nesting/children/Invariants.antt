use Rattle.std.proofs.Common.{◌≡◌, length, vec_items}
use Rattle.lists.specs.Many.{EachItem}
use Rattle.rows.specs.Orders.{After}
use Rattle.rows.proofs.nesting.Nesting.children.Given as goal

abbrev pub invariant-loop-number : goal.invariant-loop-number
invariant-loop-number l = record {
  long : length l.children ≡ length (vec_items l.self.fragments);
  after : EachItem (After (length (vec_items l.self.fragments))) l.children;
}
