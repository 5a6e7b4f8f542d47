-- What the calls of a book answer and leave.
use Rattle.std.specs.Prelude.{◌≡◌, ℕ, ◌+◌, ◌<◌, ◌≤◌, cond, List, length, get_or, Ok, Err, vec_items, Option, Result, MatchOption, MatchResult, nat_lt, slice_index, slice_index_or}
use Rattle.model.specs.declared.numbers.LinkNo.{LinkNo}
use Rattle.model.specs.declared.numbers.RowNo.{RowNo}
use Rattle.model.specs.declared.numbers.StepNo.{StepNo}
use Rattle.model.specs.declared.rowing.Row.{Row}
use Rattle.book.specs.declared.books.Book.{Book}
use Rattle.book.specs.Tables.{rows_in, runs_in}
use Rattle.book.specs.declared.faults.BookFault.{BookFault}
use Rattle.book.specs.declared.faults.BookFault.TheVariants.{NoStep, NoLink}

abbrev pub rows_of : Book → List Row
rows_of b = rows_in (vec_items b.table.entries)

abbrev pub next_of : Book → ℕ
next_of b = b.cursor.next

-- the book with its listing at row n, and all else as it is
abbrev pub at_row : Book → ℕ → Book
at_row b n = record { classes = b.classes; homes = b.homes; table = b.table; cursor = record { next = n } }

-- the listing tells the row at its place and goes on, or is at the end and stays
abbrev pub Next : Book → Option Row → Book → Type 0
Next b r c =
    MatchOption r
    ((length (rows_of b) ≤ next_of b) × (c ≡ b))
    (λ x. (next_of b < length (rows_of b)) × (x ≡ slice_index_or (rows_of b) (next_of b) x) × (c ≡ at_row b (next_of b + 1)))

-- the class of a link that there is
abbrev pub class_of : Book → LinkNo → Result LinkNo BookFault
class_of b l = cond (nat_lt l.0 (length (vec_items b.classes))) (Ok (slice_index_or (vec_items b.classes) l.0 (record { 0 = 0 }))) (Err (NoLink l))

abbrev pub home_of : Book → ℕ → ℕ
home_of b s = (get_or (vec_items b.homes) s (record { 0 = 0 })).0

abbrev pub run_of : Book → ℕ → ℕ
run_of b i = slice_index (runs_in (vec_items b.table.entries)) i

-- row j stands in the run of row i
abbrev pub InRun : Book → ℕ → ℕ → Type 0
InRun b i j = (i ≤ j) × (j < i + run_of b i)

-- the last row whose run has the row j; row 0 if none has
pub record Innermost (b : Book) (j i : ℕ) : Type 0 where
  pub last : (k : ℕ) → i < k → k < length (rows_of b) → InRun b k j → ⊥
  pub has : j < length (rows_of b) → InRun b i j

abbrev pub Found : Book → StepNo → Result RowNo BookFault → Type 0
Found b s r =
    MatchResult r
    (λ i. (s.0 < length (vec_items b.homes)) × Innermost b (home_of b s.0) i.0)
    (λ e. (length (vec_items b.homes) ≤ s.0) × (e ≡ NoStep s))
