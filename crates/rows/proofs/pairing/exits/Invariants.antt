use Rattle.std.proofs.Common.{◌≡◌, ℕ, length, get_or, Some, None, vec_items, vec_len}
use Rattle.model.specs.declared.numbers.LinkNo.{LinkNo}
use Rattle.rows.specs.Bounds.{SomeBelow}
use Rattle.rows.specs.Pairs.{class_at, Paired}
use Rattle.rows.proofs.pairing.exits.Given as goal

abbrev pub invariant-loop-link : goal.invariant-loop-link
invariant-loop-link l = record {
  exits : vec_len l.exits ≡ length l.classes;
  exits_below : SomeBelow (length l.classes) (vec_items l.exits);
  paired : Paired l.classes (vec_items l.exits);
  latest : vec_len l.latest ≡ length l.classes;
  latest_below : SomeBelow (length l.classes) (vec_items l.latest);
  classed : (k : ℕ) (x : LinkNo) → get_or (vec_items l.latest) k None ≡ Some x → class_at l.classes x ≡ k;
}
