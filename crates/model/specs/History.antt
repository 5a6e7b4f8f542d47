-- The calls of a book with their answers, and the law that every list of them follows.
-- A history has the newest call first. The number of a call is how many calls came before it, and a slip is named by the number of the call that made it.
use Rattle.std.specs.Prelude.{◌≡◌, ℕ, ◌<◌, ◌≤◌, Bool, false, cond, ◌||◌, ◌≢◌, ◌⊎◌, List, [], ◌∷◌, length, Some, None, Option, ◌==◌}
use Rattle.model.specs.Meaning.{Graph}
use Rattle.model.specs.Walks.{Canonical}
use Rattle.model.specs.Parts.{Part, whole, fragment, Holds, Apart, Clash}
use Rattle.model.specs.Listing.{Row, row, Innermost}

-- Granted, or refused with a number and a place. The refusals of these calls are all of the layer `book`.
pub data Answer (A : Type 0) : Type 0 where
  ok : A → Answer A
  refused : ℕ → ℕ → Answer A

-- A call and its answer.
pub data Event : Type 0 where
  -- next: a row with its number, or End
  showing : Option (ℕ × Row) → Event
  restarting : Event
  -- find: a step, and its row
  finding : ℕ → Answer ℕ → Event
  -- take: a row and a holder
  taking : ℕ → ℕ → Answer (Unit {0}) → Event
  -- give-back of the book's own slip of this name
  giving : ℕ → Answer (Unit {0}) → Event
  -- give-back of a foreign slip, for a row and a holder, refused with a number and a place
  rejecting : ℕ → ℕ → ℕ → ℕ → Event

abbrev pub History : Type 0
History = List Event

-- The rows shown since the opening or the last restart, the newest first.
abbrev pub shown : History → List Row
shown [] = []
shown (showing (Some x) ∷ es) = x.1 ∷ shown es
shown (showing None ∷ es) = shown es
shown (restarting ∷ es) = []
shown (finding s r ∷ es) = shown es
shown (taking i h r ∷ es) = shown es
shown (giving k r ∷ es) = shown es
shown (rejecting i h n p ∷ es) = shown es

-- p is the part of a row that was ever shown.
abbrev pub Shown : History → Part → Type 0
Shown [] p = ⊥
Shown (showing (Some x) ∷ es) p = (x.1.part ≡ p) ⊎ Shown es p
Shown (showing None ∷ es) p = Shown es p
Shown (restarting ∷ es) p = Shown es p
Shown (finding s r ∷ es) p = Shown es p
Shown (taking i h r ∷ es) p = Shown es p
Shown (giving k r ∷ es) p = Shown es p
Shown (rejecting i h n q ∷ es) p = Shown es p

-- The row and the holder of slip k. Only a granted take makes a slip.
abbrev pub slip : History → ℕ → Option (ℕ × ℕ)
slip [] k = None
slip (showing r ∷ es) k = slip es k
slip (restarting ∷ es) k = slip es k
slip (finding s r ∷ es) k = slip es k
slip (taking i h (ok u) ∷ es) k = cond (k == length es) (Some (i, h)) (slip es k)
slip (taking i h (refused n p) ∷ es) k = slip es k
slip (giving j r ∷ es) k = slip es k
slip (rejecting i h n p ∷ es) k = slip es k

-- Slip k was ended by a granted give-back.
abbrev pub ended : History → ℕ → Bool
ended [] k = false
ended (showing r ∷ es) k = ended es k
ended (restarting ∷ es) k = ended es k
ended (finding s r ∷ es) k = ended es k
ended (taking i h r ∷ es) k = ended es k
ended (giving j (ok u) ∷ es) k = k == j || ended es k
ended (giving j (refused n p) ∷ es) k = ended es k
ended (rejecting i h n p ∷ es) k = ended es k

-- Slip k is live: it was made, for the row and the holder s, and is not ended.
abbrev pub Live : History → ℕ → ℕ × ℕ → Type 0
Live es k s = (slip es k ≡ Some s) × (ended es k ≡ false)

abbrev pub is_for : Option (ℕ × ℕ) → ℕ → Bool
is_for None i = false
is_for (Some s) i = i == s.0

-- Who has row i. A row is out from a granted take of it to the next granted give-back of a slip for it.
abbrev pub holder : History → ℕ → Option ℕ
holder [] i = None
holder (showing r ∷ es) i = holder es i
holder (restarting ∷ es) i = holder es i
holder (finding s r ∷ es) i = holder es i
holder (taking j h (ok u) ∷ es) i = cond (i == j) (Some h) (holder es i)
holder (taking j h (refused n p) ∷ es) i = holder es i
holder (giving k (ok u) ∷ es) i = cond (is_for (slip es k) i) None (holder es i)
holder (giving k (refused n p) ∷ es) i = holder es i
holder (rejecting j h n p ∷ es) i = holder es i

abbrev pub Out : History → ℕ → Type 0
Out es i = (h : ℕ) × (holder es i ≡ Some h)

-- Part p stands exactly once in the rows xs.
abbrev pub Once : List Row → Part → Type 0
Once xs p = (i : ℕ) × (i < length xs) × ((row xs i).part ≡ p) × ((j : ℕ) → j < length xs → (row xs j).part ≡ p → j ≡ i)

-- The rows xs are the whole plan and every canonical fragment exactly once, and nothing else.
pub record Round (g : Graph) (xs : List Row) : Type 0 where
  pub plan : Once xs whole
  pub fragments : (a b : ℕ) → Canonical g a b → Once xs (fragment a b)
  pub no_more : (i : ℕ) → i < length xs → ((row xs i).part ≡ whole) ⊎ ((a : ℕ) × (b : ℕ) × ((row xs i).part ≡ fragment a b) × Canonical g a b)

module _ (g : Graph) (rows : List Row) (es : History) where
  -- row j is out, and some step is inside it and inside row i
  abbrev pub Blocks : ℕ → ℕ → Type 0
  Blocks i j = Out es j × Clash g (row rows i).part (row rows j).part

  -- what the next event can be, after the history es
  abbrev pub Right : Event → Type 0
  Right (showing (Some x)) = (x.0 ≡ length (shown es)) × (x.0 < length rows) × (x.1 ≡ row rows x.0)
  Right (showing None) = (length (shown es) ≡ length rows) × Round g (shown es)
  Right restarting = Unit {0}
  Right (finding s (ok i)) = (s < g.steps) × Innermost g rows s i
  Right (finding s (refused n p)) = (g.steps ≤ s) × (n ≡ 64) × (p ≡ s)
  Right (taking i h (ok u)) = (i < length rows) × ((j : ℕ) → Blocks i j → ⊥)
  Right (taking i h (refused n p)) =
      ((length rows ≤ i) × (n ≡ 61) × (p ≡ i)) ⊎ ((i < length rows) × (n ≡ 62) × Blocks i p × ((j : ℕ) → j < p → Blocks i j → ⊥))
  -- a live slip is always taken back
  Right (giving k (ok u)) = (s : ℕ × ℕ) × Live es k s
  Right (giving k (refused n p)) = ⊥
  Right (rejecting i h n p) = (holder es i ≢ Some h) × (n ≡ 63) × (p ≡ i)

-- Each event was right after those before it.
abbrev pub Answered : Graph → List Row → History → Type 0
Answered g rows [] = Unit {0}
Answered g rows (e ∷ es) = Right g rows es e × Answered g rows es

-- What holds after every history of a book whose plan has these rows.
pub record Lawful (g : Graph) (rows : List Row) (es : History) : Type 0 where
  pub answered : Answered g rows es
  -- two parts that were ever shown have no step in common, or one has all steps of the other
  pub nested : (p q : Part) → Shown es p → Shown es q → Apart g p q ⊎ (Holds g p q ⊎ Holds g q p)
  -- no step is inside two rows that are out together
  pub apart : (i j : ℕ) → i ≢ j → Out es i → Out es j → Apart g (row rows i).part (row rows j).part
