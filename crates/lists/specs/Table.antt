-- Many lists over one arena, as their cells tell them.
--     cell_at cs f         the cell of the number f, if there is one
--     items_from cs c n    the items of at most n cells, from the cell c on
--     items_of cs l        the items of the list l
--     lists_of cs ls       the items of each list
--     IsTable cs ls        each list holds what is read of it and no cell is in two lists (held), so that all lists together have no more items than there are cells (counted), and the cells can be numbered (few)
use Rattle.std.specs.Prelude.{ℕ, zero, suc, ◌^◌, ◌<◌, ◌≤◌, List, [], ◌∷◌, map, length, Some, None, Option, slice_get}
use Rattle.lists.specs.declared.cells.Cell.{Cell}
use Rattle.lists.specs.declared.cells.Chain.{Chain}
use Rattle.lists.specs.Many.{row}
use Rattle.lists.specs.Rows.{Rows, total}

abbrev pub cell_at : {T : Type 0} → List (Cell T) → Option ℕ → Option (Cell T)
cell_at cs None = None
cell_at cs (Some i) = slice_get cs i

abbrev pub items_from : {T : Type 0} → List (Cell T) → Option (Cell T) → ℕ → List T
items_from cs c zero = []
items_from cs None (suc n) = []
items_from cs (Some c) (suc n) = c.item ∷ items_from cs (cell_at cs c.next) n

abbrev pub items_of : {T : Type 0} → List (Cell T) → Chain → List T
items_of cs l = items_from cs (cell_at cs l.front) l.len

abbrev pub lists_of : {T : Type 0} → List (Cell T) → List Chain → List (List T)
lists_of cs ls = map (items_of cs) ls

pub record IsTable {T : Type 0} (cs : List (Cell T)) (ls : List Chain) : Type 0 where
  pub held : Rows cs ls (row (lists_of cs ls))
  pub counted : total ls ≤ length cs
  pub few : length cs < 2 ^ 32
