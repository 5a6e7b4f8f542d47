-- The answer to a text: the lines of all rows of its plan, or one refusal line.
use Rattle.std.specs.Prelude.{◌≡◌, ℕ, ◌≤◌, ◌⊎◌, List, [], ◌∷◌, ◌++◌, length, Some}
use Rattle.model.specs.declared.refusals.Refusal.{Refusal}
use Rattle.model.specs.declared.rowing.Row.{Row}
use Rattle.model.specs.Meaning.{Meaning, Limits}
use Rattle.text.specs.Spelling.{Spells}
use Rattle.plan.specs.Reading.{Refused}
use Rattle.plan.specs.Writing.{frames_of}
use Rattle.search.specs.Shapes.{Misshaped}
use Rattle.lines.specs.Lines.{row_bytes, refusal_bytes}
use Rattle.book.specs.declared.books.Book.{Book}
use Rattle.book.specs.Calls.{rows_of}
use Rattle.book.specs.Opens.{Opened}
use Rattle.listing.specs.declared.faults.BrowserFault.{BrowserFault}
use Rattle.listing.specs.declared.faults.BrowserFault.TheVariants.{Table, Shape, Memory}
use Rattle.listing.specs.Faults.{browser_refusal}

-- the lines of rows, one after the other
abbrev pub lines_of : List Row → List ℕ
lines_of [] = []
lines_of (r ∷ rs) = row_bytes r ++ lines_of rs

-- the text writes a table of this meaning
pub record Writes (text : List ℕ) (μ : Meaning) : Type 0 where
  pub short : length text ≤ 65535
  pub limits : Limits μ
  pub spells : Spells text (frames_of μ)

-- the text writes a sound plan, and these are the lines of the rows of a book that was opened over it
pub record Listed (text lines : List ℕ) : Type 0 where
  pub meaning : Meaning
  pub writes : Writes text meaning
  pub book : Book
  pub opened : Opened meaning book
  pub told : lines ≡ lines_of (rows_of book)

-- why a text has no listing: it writes no table, or its plan is not sound; or memory is wanting
abbrev pub Unlisted : List ℕ → BrowserFault → Type 0
Unlisted text (Table e) = Refused text e
Unlisted text (Shape e) = (μ : Meaning) × Writes text μ × Misshaped μ.graph e
Unlisted text Memory = Unit {0}

-- the line tells why the text has no listing
pub record ToldOff (text line : List ℕ) : Type 0 where
  pub fault : BrowserFault
  pub why : Unlisted text fault
  pub refusal : Refusal
  pub number : browser_refusal fault ≡ Some refusal
  pub told : line ≡ refusal_bytes refusal

abbrev pub Answers : List ℕ → List ℕ → Type 0
Answers text out = Listed text out ⊎ ToldOff text out
