use Rattle.std.proofs.Common.{◌≡◌, ℕ, ◌+◌, ◌≤◌, length, vec_items}
use Rattle.rows.specs.Bounds.{SomeBelow}
use Rattle.rows.specs.Nests.{Entries, Exits}
use Rattle.rows.proofs.nesting.nest.Given as goal

abbrev pub invariant-loop-link : goal.invariant-loop-link
invariant-loop-link l = record {
  steps : length (vec_items l.nesting.homes) ≡ l.steps;
  links : length (vec_items l.nesting.entered) ≡ length l.links;
  few : length (vec_items l.nesting.fragments) ≤ l.link-index + 1;
  entries : Entries (length l.links) (vec_items l.nesting.fragments);
  exits : (m : ℕ) → SomeBelow m l.exits → Exits m (vec_items l.nesting.fragments);
}
