-- What a book's table has in its entries.
use Rattle.std.specs.Prelude.{◌≡◌, ℕ, List, None, map}
use Rattle.std.specs.List.{All}
use Rattle.model.specs.declared.rowing.Row.{Row}
use Rattle.rows.specs.declared.listing.RowRun.{RowRun}
use Rattle.book.specs.declared.tables.Entry.{Entry}

abbrev pub rows_in : List Entry → List Row
rows_in es = map (λ e. e.row) es

abbrev pub runs_in : List Entry → List ℕ
runs_in es = map (λ e. e.run) es

-- a row with its run, not out
abbrev pub entry_of : RowRun → Entry
entry_of r = record { row = r.row; run = r.run; holder = None }

-- no row is out
abbrev pub NoneOut : List Entry → Type 0
NoneOut es = All (λ e. e.holder ≡ None) es
