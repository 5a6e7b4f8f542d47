-- What each call does to a book, as a relation over the book before, the arguments, the answer and the book after; and the law over all lists of calls.
use Rattle.std.specs.Prelude.{◌≡◌, ℕ, ◌+◌, ◌<◌, ◌≤◌, ◌⊎◌, ◌↔◌, List, [], ◌∷◌, length, Some, None, Option, ◌≢◌, slice_index, slice_index_or, slice_set}
use Rattle.model.specs.Meaning.{Meaning}
use Rattle.model.specs.Walks.{Sound}
use Rattle.model.specs.Parts.{Holds}
use Rattle.model.specs.Listing.{Row, row, Listing, Innermost}
use Rattle.model.specs.History.{Answer, ok, refused, showing, restarting, finding, taking, giving, rejecting, History, Live, Right, Lawful}

-- What a book holds: its rows, how many rows each has in its run, who has each row, the innermost row of each step, and the listing's place.
pub record View : Type 0 where
  pub rows : List Row
  pub runs : List ℕ
  pub marks : List (Option ℕ)
  pub homes : List ℕ
  pub place : ℕ

abbrev pub at_place : View → ℕ → View
at_place v k = record { rows = v.rows; runs = v.runs; marks = v.marks; homes = v.homes; place = k }

abbrev pub marked : View → ℕ → Option ℕ → View
marked v i m = record { rows = v.rows; runs = v.runs; marks = slice_set v.marks i m; homes = v.homes; place = v.place }

abbrev pub mark : View → ℕ → Option ℕ
mark v i = slice_index_or v.marks i None

abbrev pub IsOut : View → ℕ → Type 0
IsOut v i = (h : ℕ) × (mark v i ≡ Some h)

-- Row j is in the run of row i.
abbrev pub InRun : View → ℕ → ℕ → Type 0
InRun v i j = (i ≤ j) × (j < i + slice_index v.runs i)

-- Row j is out, and one of the rows i and j is in the run of the other.
abbrev pub Meets : View → ℕ → ℕ → Type 0
Meets v i j = IsOut v j × (InRun v i j ⊎ InRun v j i)

-- Next shows the row at the listing's place and goes on, or tells End and stays.
abbrev pub Next : View → Option (ℕ × Row) → View → Type 0
Next v None w = (length v.rows ≤ v.place) × (w ≡ v)
Next v (Some x) w = (v.place < length v.rows) × (x ≡ (v.place, row v.rows v.place)) × (w ≡ at_place v (v.place + 1))

abbrev pub Restart : View → View → Type 0
Restart v w = w ≡ at_place v 0

-- Find tells the innermost row of a step, or that there is no such step.
abbrev pub Find : View → ℕ → Answer ℕ → View → Type 0
Find v s (ok i) w = (s < length v.homes) × (i ≡ slice_index v.homes s) × (w ≡ v)
Find v s (refused n p) w = (length v.homes ≤ s) × (n ≡ 64) × (p ≡ s) × (w ≡ v)

-- Take marks a row that meets no row that is out; else it tells that there is no such row, or the smallest row out that it meets.
abbrev pub Take : View → ℕ → ℕ → Answer (Unit {0}) → View → Type 0
Take v i h (ok u) w = (i < length v.rows) × ((j : ℕ) → j < length v.rows → Meets v i j → ⊥) × (w ≡ marked v i (Some h))
Take v i h (refused n p) w =
    (((length v.rows ≤ i) × (n ≡ 61) × (p ≡ i)) ⊎
    ((i < length v.rows) × (n ≡ 62) × (p < length v.rows) × Meets v i p × ((j : ℕ) → j < p → Meets v i j → ⊥))) × (w ≡ v)

-- Give-back of a slip, its row and its holder: granted when the row is out to the holder.
abbrev pub GiveBack : View → (ℕ × ℕ) → Answer (Unit {0}) → View → Type 0
GiveBack v s (ok u) w = (mark v s.0 ≡ Some s.1) × (w ≡ marked v s.0 None)
GiveBack v s (refused n p) w = (mark v s.0 ≢ Some s.1) × (n ≡ 63) × (p ≡ s.0) × (w ≡ v)

-- The calls of a history lead from the book v to the book w. Of the book's own slips the live ones can be given back, since nobody has an ended one; of foreign slips refused give-backs occur.
pub data Run (v : View) : History → View → Type 0 where
  opened : Run v [] v
  nexts : {es : History} {w : View} (r : Option (ℕ × Row)) (x : View) → Run v es w → Next w r x → Run v (showing r ∷ es) x
  restarts : {es : History} {w : View} (x : View) → Run v es w → Restart w x → Run v (restarting ∷ es) x
  finds : {es : History} {w : View} (s : ℕ) (r : Answer ℕ) (x : View) → Run v es w → Find w s r x → Run v (finding s r ∷ es) x
  takes : {es : History} {w : View} (i h : ℕ) (r : Answer (Unit {0})) (x : View) → Run v es w → Take w i h r x → Run v (taking i h r ∷ es) x
  gives :
      {es : History} {w : View} (k : ℕ) (s : ℕ × ℕ) (r : Answer (Unit {0})) (x : View) → Run v es w → Live es k s →
      GiveBack w s r x → Run v (giving k r ∷ es) x
  rejects : {es : History} {w : View} (i h n p : ℕ) (x : View) → Run v es w → GiveBack w (i, h) (refused n p) x → Run v (rejecting i h n p ∷ es) x

-- What an opening promises of the book.
pub record Opened (μ : Meaning) (v : View) : Type 0 where
  pub listing : Listing μ v.rows
  pub runs : (i j : ℕ) → i < length v.rows → j < length v.rows → (InRun v i j ↔ Holds μ.graph (row v.rows i).part (row v.rows j).part)
  pub room : (i : ℕ) → i < length v.rows → i + slice_index v.runs i ≤ length v.rows
  pub known : length v.homes ≡ μ.graph.steps
  pub homes : (s : ℕ) → s < μ.graph.steps → Innermost μ.graph v.rows s (slice_index v.homes s)
  pub paired : length v.marks ≡ length v.rows
  pub none_out : (i : ℕ) → mark v i ≡ None
  pub start : v.place ≡ 0

-- The law: the book's rows are the listing of the plan, and every history of the book follows them.
pub record Law (μ : Meaning) (v : View) : Type 0 where
  pub listing : Listing μ v.rows
  pub lawful : (es : History) (w : View) → Run v es w → Lawful μ.graph v.rows es

-- Theorem: the law holds of every book that is opened over a sound plan.
abbrev pub LawStands : Type 0
LawStands = (μ : Meaning) → Sound μ.graph → (v : View) → Opened μ v → Law μ v

-- Theorem: after the same history, the law leaves one answer to each call.
pub record OneAnswer : Type 0 where
  pub next : (μ : Meaning) (rows : List Row) (es : History) (r q : Option (ℕ × Row)) → Right μ.graph rows es (showing r) → Right μ.graph rows es (showing q) → r ≡ q
  pub take : (μ : Meaning) (rows : List Row) (es : History) (i h : ℕ) (r q : Answer (Unit {0})) → Right μ.graph rows es (taking i h r) → Right μ.graph rows es (taking i h q) → r ≡ q
  pub give : (μ : Meaning) (rows : List Row) (es : History) (k : ℕ) (r q : Answer (Unit {0})) → Right μ.graph rows es (giving k r) → Right μ.graph rows es (giving k q) → r ≡ q
  pub find : (μ : Meaning) → Sound μ.graph → (rows : List Row) → Listing μ rows → (es : History) (s : ℕ) (r q : Answer ℕ) → Right μ.graph rows es (finding s r) → Right μ.graph rows es (finding s q) → r ≡ q
