use Rattle.std.proofs.Common.{◌≡◌, ◌+◌, length, sum_by, vec_items}
use Rattle.lists.specs.Many.{EachItem}
use Rattle.rows.specs.Nests.{Sites, Entries, Exits, Placed}
use Rattle.rows.specs.Orders.{After, Known, Lies, Numbered}
use Rattle.rows.proofs.nesting.Nesting.in_order.Given as goal

abbrev pub invariant-loop-k : goal.invariant-loop-k
invariant-loop-k l = record {
  first : l.k-iterator.iter.count ≡ 0;
  sites : Sites l.k-iterator.iter.iter.rest.now;
  placed : Placed l.k-iterator.iter.iter.rest.now;
  counted : sum_by length l.below + length l.k-iterator.iter.iter.rest.now ≡ length (vec_items l.self.fragments);
  lists : length l.below ≡ length (vec_items l.self.fragments);
  same : length l.children ≡ length (vec_items l.self.fragments);
  after : EachItem (After (length (vec_items l.self.fragments))) l.children;
  numbered : EachItem (λ _. Numbered (length (vec_items l.self.fragments))) l.below;
  known : Entries (length (vec_items l.self.entered)) (vec_items l.self.fragments) → Exits (length (vec_items l.self.entered)) (vec_items l.self.fragments) → Entries (length (vec_items l.self.entered)) l.k-iterator.iter.iter.rest.now × Exits (length (vec_items l.self.entered)) l.k-iterator.iter.iter.rest.now × EachItem (λ _. Known (length (vec_items l.self.entered)) (length (vec_items l.self.fragments))) l.below;
  lies : EachItem (λ _. Lies) l.below;
}
