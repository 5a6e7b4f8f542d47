-- What many lists are to a caller: the lists, one after the other.
--     row t j          the list at j
--     Reads t rows     the list at each j of t is (rows j)
--     EachItem P t     P j holds of each item of the list at each j
use Rattle.std.specs.Prelude.{◌≡◌, ℕ, ◌<◌, List, [], length, slice_index_or}
use Rattle.std.specs.List.{All}

abbrev pub row : {T : Type 0} → List (List T) → ℕ → List T
row t j = slice_index_or t j []

abbrev pub Reads : {T : Type 0} → List (List T) → (ℕ → List T) → Type 0
Reads t rows = (j : ℕ) → j < length t → row t j ≡ rows j

abbrev pub EachItem : {T : Type 0} → (ℕ → T → Type 0) → List (List T) → Type 0
EachItem P t = (j : ℕ) → j < length t → All (P j) (row t j)
