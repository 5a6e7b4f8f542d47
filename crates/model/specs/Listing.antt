-- The listing of a plan: its rows.
use Rattle.std.specs.Prelude.{◌≡◌, ℕ, ◌+◌, ◌<◌, ◌≤◌, ◌≢◌, ◌↔◌, List, length, Some, None, Option, slice_index_or}
use Rattle.model.specs.declared.kinds.Kind.{Kind}
use Rattle.model.specs.declared.kinds.Kind.TheVariants.{Whole}
use Rattle.model.specs.Meaning.{Graph, Meaning}
use Rattle.model.specs.Walks.{Canonical}
use Rattle.model.specs.Parts.{Part, whole, fragment, In, Holds, Counted}
use Rattle.model.specs.Kinds.{KindOf}

-- A row. Its number is its place in the list of rows, its entry and exit are those of its part, and `inside` counts the steps inside.
pub record Row : Type 0 where
  pub part : Part
  pub parent : Option ℕ
  pub kind : Kind
  pub inside : ℕ

abbrev pub row : List Row → ℕ → Row
row rows i = slice_index_or rows i (record { part = whole; parent = None; kind = Whole; inside = 0 })

-- Row i is the parent of row j: of the other rows that have all steps of row j it has the fewest.
pub record Parent (g : Graph) (rows : List Row) (i j : ℕ) : Type 0 where
  pub is_row : i < length rows
  pub other : i ≢ j
  pub holds : Holds g (row rows i).part (row rows j).part
  pub smallest : (k : ℕ) → k < length rows → k ≢ j → Holds g (row rows k).part (row rows j).part → (row rows i).inside ≤ (row rows k).inside

-- Row j is below row i: another row, and row i has all its steps.
abbrev pub Below : Graph → List Row → ℕ → ℕ → Type 0
Below g rows i j = (i ≢ j) × Holds g (row rows i).part (row rows j).part

-- The rows are the listing of the meaning.
pub record Listing (μ : Meaning) (rows : List Row) : Type 0 where
  -- row 0 is the whole plan
  pub some : 0 < length rows
  pub top : (row rows 0).part ≡ whole
  pub rootless : (row rows 0).parent ≡ None
  -- every later row is a canonical fragment, and every canonical fragment has exactly one row
  pub canonical : (i : ℕ) → 0 < i → i < length rows → (a : ℕ) × (b : ℕ) × ((row rows i).part ≡ fragment a b) × Canonical μ.graph a b
  pub listed : (a b : ℕ) → Canonical μ.graph a b → (i : ℕ) × (i < length rows) × ((row rows i).part ≡ fragment a b)
  pub once : (i j : ℕ) → i < length rows → j < length rows → (row rows i).part ≡ (row rows j).part → i ≡ j
  -- parents, counts and kinds are as defined
  pub parents : (j : ℕ) → 0 < j → j < length rows → (i : ℕ) × ((row rows j).parent ≡ Some i) × Parent μ.graph rows i j
  pub counts : (i : ℕ) → i < length rows → Counted μ.graph (row rows i).part (row rows i).inside
  pub kinds : (i : ℕ) → i < length rows → KindOf μ (row rows i).part (row rows i).kind
  -- a row is followed directly by all rows below it
  pub after : (i j : ℕ) → i < length rows → j < length rows → Below μ.graph rows i j → i < j
  pub directly : (i j k : ℕ) → i < k → k < j → j < length rows → Below μ.graph rows i j → Below μ.graph rows i k
  -- rows of one parent stand by rising entry link
  pub rising :
      (i j a b c d : ℕ) → i < j → j < length rows → (row rows i).parent ≡ (row rows j).parent → (row rows i).part ≡ fragment a b →
      (row rows j).part ≡ fragment c d → a < c

-- The run of row i: r rows from row i on are row i and all rows below it.
pub record RunOf (g : Graph) (rows : List Row) (i r : ℕ) : Type 0 where
  pub room : i + r ≤ length rows
  pub has : (j : ℕ) → j < length rows → (((i ≤ j) × (j < i + r)) ↔ Holds g (row rows i).part (row rows j).part)

-- Row i is the row of fewest steps that step s is inside.
pub record Innermost (g : Graph) (rows : List Row) (s i : ℕ) : Type 0 where
  pub is_row : i < length rows
  pub inside : In g (row rows i).part s
  pub fewest : (j : ℕ) → j < length rows → In g (row rows j).part s → (row rows i).inside ≤ (row rows j).inside
