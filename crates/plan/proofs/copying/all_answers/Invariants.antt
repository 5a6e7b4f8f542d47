use Rattle.std.proofs.Common.{◌≡◌, ℕ, ◌<◌, length, vec_items}
use Rattle.std.specs.List.{slice_get}
use Rattle.plan.proofs.copying.all_answers.Given as goal

abbrev pub invariant-loop-number : goal.invariant-loop-number
invariant-loop-number g l =
    (length (vec_items l.all) ≡ l.number) × ((k : ℕ) → k < l.number → goal.F-post g l.ask k (slice_get (vec_items l.all) k))
