-- What many lists hold together.
--     Rows cs ls rows    the list at each j of ls holds the items (rows j), and no two of the lists share a cell
--     put rows j xs      rows, with xs at j
--     top, rest          the first item, if there is one, and the items after it
--     total ls           how many items all lists have
use Rattle.std.specs.Prelude.{ℕ, ◌<◌, cond, List, [], ◌∷◌, length, Some, None, sum_by, Option, ◌==◌, ◌≢◌, slice_index_or}
use Rattle.lists.specs.declared.cells.Cell.{Cell}
use Rattle.lists.specs.declared.cells.Chain.{Chain}
use Rattle.lists.specs.Holds.{Holds, Apart, nil}

pub record Rows {T : Type 0} (cs : List (Cell T)) (ls : List Chain) (rows : ℕ → List T) : Type 0 where
  pub each : (j : ℕ) → j < length ls → Holds cs (slice_index_or ls j nil) (rows j)
  pub apart : (i j : ℕ) → i < length ls → j < length ls → (i ≢ j) → Apart (slice_index_or ls i nil) (slice_index_or ls j nil)

abbrev pub put : {T : Type 0} → (ℕ → List T) → ℕ → List T → ℕ → List T
put rows j xs k = cond (k == j) xs (rows k)

abbrev pub top : {T : Type 0} → List T → Option T
top [] = None
top (x ∷ xs) = Some x

abbrev pub rest : {T : Type 0} → List T → List T
rest [] = []
rest (x ∷ xs) = xs

abbrev pub total : List Chain → ℕ
total ls = sum_by (λ c. c.len) ls
