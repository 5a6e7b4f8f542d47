-- Which links cross the subtree of a number, and an example.
use Rattle.std.specs.Prelude.{◌≡◌, ℕ, ◌<◌, Bool, true, ◌||◌, ◌↔◌, [], ◌∷◌, ◌==◌, slice_index, slice_index_or}
use Rattle.std.specs.Bool.{xor}
use Rattle.naming.specs.Names.{Shape, Treelike}
use Rattle.naming.specs.Built.{shape_of}
use Rattle.naming.specs.Searched.{Searched, Upward, base_of}

-- Of a tree over numbers:
pub record Bridged (S : Shape ℕ) : Type 0 where
  -- a link between v and a number w above it crosses the subtree of k
  pub cross : (k v w : ℕ) → k < S.size → v < S.size → S.sub w v ≡ true → (xor (S.sub k v) (S.sub k w) ≡ true) ↔ ((S.sub k v ≡ true) × (w < k))
  pub cross_turned : (k v w : ℕ) → k < S.size → v < S.size → S.sub w v ≡ true → (xor (S.sub k w) (S.sub k v) ≡ true) ↔ ((S.sub k v ≡ true) × (w < k))
  -- the two laws leave no choice
  pub same_sub :
      (t : ℕ) (f : ℕ → Bool) → f 0 ≡ (0 == t) → ((v : ℕ) → 0 < v → v < S.size → f v ≡ (v == t || f (S.parent v))) → (v : ℕ) → v < S.size → f v ≡ S.sub t v

-- Theorem: so it is with every tree over numbers.
abbrev pub BridgeStands : Type 0
BridgeStands = (S : Shape ℕ) → Treelike S → Bridged S

-- 0 - 1 - 2, and 3 and 4 below 2, each with a back link to 0: the cap of 2 has number 2 + 2
abbrev pub example : Searched
example =
    record {
      size = 5;
      parent = λ k. slice_index (0 ∷ 0 ∷ 1 ∷ 2 ∷ 2 ∷ []) k;
      many = 2;
      links = λ k. slice_index_or ([] ∷ [] ∷ [] ∷ (0 ∷ []) ∷ (1 ∷ []) ∷ []) k [];
      from = λ x. slice_index (3 ∷ 4 ∷ []) x;
      to = λ x. 0;
    }

abbrev pub ExampleStands : Type 0
ExampleStands =
    Upward example × ((shape_of (base_of example)).list 1 ≡ 4 ∷ 0 ∷ 1 ∷ []) × ((shape_of (base_of example)).list 2 ≡ 4 ∷ 0 ∷ 1 ∷ []) ×
    ((shape_of (base_of example)).list 3 ≡ 0 ∷ []) × ((shape_of (base_of example)).list 4 ≡ 1 ∷ [])
