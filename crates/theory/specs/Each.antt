-- What holds of each element of a list.
use Rattle.std.specs.Prelude.{◌≡◌, ℕ, ◌<◌, List, length, Some, None, Option, slice_index_or}

-- P holds of each element of xs; d is only what `get_or` wants past the end
abbrev pub Each : {X : Type 0} → (X → Type 0) → X → List X → Type 0
Each P d xs = (k : ℕ) → k < length xs → P (slice_index_or xs k d)

-- P holds of each element that is there
abbrev pub EachSome : {X : Type 0} → (X → Type 0) → List (Option X) → Type 0
EachSome {X = X} P xs = (k : ℕ) (x : X) → slice_index_or xs k None ≡ Some x → P x
