-- Links as they stand in arrays, and as pairs of numbers.
use Rattle.std.proofs.Common.{ℕ, ◌<◌, List, map, length, get_or, subst}
use Rattle.std.proofs.lemmas.List.{length-map, get_or-map}
use Rattle.model.specs.declared.numbers.Ends.{Ends}
use Rattle.model.specs.Meaning.{EndsBelow, pair_of, ends_from}

pub ends_at : (n : ℕ) (xs : List Ends) → EndsBelow n (map pair_of xs) → (k : ℕ) → k < length xs → ((get_or xs k (ends_from (0, 0))).tail.0 < n) × ((get_or xs k (ends_from (0, 0))).head.0 < n)
ends_at n xs h k lt = subst (λ (p : ℕ × ℕ). (p.0 < n) × (p.1 < n)) (get_or-map pair_of xs k (ends_from (0, 0)) (0, 0) lt) (h k (rw length-map lt))
