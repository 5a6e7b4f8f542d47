-- A falling loop over the numbers that keeps, for each number, what its children so far have brought.
use Rattle.std.specs.Prelude.{◌≡◌, ℕ, zero, suc, ◌+◌, ◌-◌, ◌<◌, ◌≤◌, min, max, ◌≢◌, List, [], ◌∷◌, ◌++◌, length, filter, nat_eq, nat_lt}
use Rattle.naming.specs.Words.{flat, low, second}
use Rattle.naming.specs.Names.{Carries, ending_at, hi2}
use Rattle.naming.specs.Built.{Base, kids_from, hi_of, shape_of, Ready}
use Rattle.naming.specs.Searched.{Searched, Upward, base_of}

-- the m numbers from k on
unfoldable pub numbers : ℕ → ℕ → List ℕ
numbers zero k = []
numbers (suc m) k = k ∷ numbers m (suc k)

-- the children of p from k on; all numbers from k on
abbrev pub sofar : {X : Type 0} → Base X → ℕ → ℕ → List ℕ
sofar B k p = kids_from B.parent (B.size - k) k p

abbrev pub later : {X : Type 0} → Base X → ℕ → List ℕ
later B k = numbers (B.size - k) k

abbrev pub list_of : {X : Type 0} → Base X → ℕ → List X
list_of B = (shape_of B).list

-- what a program holds for each number
pub record State (X : Type 0) : Type 0 where
  pub items : ℕ → List X
  pub len : ℕ → ℕ
  pub lo : ℕ → ℕ
  pub lo2 : ℕ → ℕ
  pub ends : ℕ → ℕ

-- the numbers from k on are done
pub record Sofar {X : Type 0} (B : Base X) (k : ℕ) (s : State X) : Type 0 where
  pub items_is : (p : ℕ) → p < k → filter (λ x. nat_lt (B.dst x) p) (s.items p) ≡ filter (λ x. nat_lt (B.dst x) p) (flat (list_of B) (sofar B k p))
  pub len_is : (p : ℕ) → p < k → s.len p ≡ length (flat (list_of B) (sofar B k p))
  pub lo_is : (p : ℕ) → p < k → s.lo p ≡ low B.size (hi_of B) (sofar B k p)
  pub lo2_is : (p : ℕ) → p < k → s.lo2 p ≡ second B.size (hi_of B) (sofar B k p)
  pub ends_is : (p : ℕ) → p < k → s.ends p ≡ length (ending_at (shape_of B) p (later B k))

-- at v, with its own items put in front
pub record Here {X : Type 0} (B : Base X) (v : ℕ) (s : State X) : Type 0 where
  pub items_here : Carries (shape_of B) v (B.own v ++ s.items v)
  pub hi_here : hi_of B v ≡ min (B.hi0 v) (s.lo v)
  pub hi2_here : hi2 (shape_of B) v ≡ s.lo2 v
  pub len_here : length (list_of B v) + s.ends v ≡ length (B.own v) + s.len v

-- v is joined to its parent; xs is what it carries, some ended items taken from the top
pub record Joins {X : Type 0} (B : Base X) (v : ℕ) (xs : List X) (s t : State X) : Type 0 where
  pub items_up : t.items (B.parent v) ≡ xs ++ s.items (B.parent v)
  pub items_rest : (p : ℕ) → p < v → B.parent v ≢ p → t.items p ≡ s.items p
  pub len_up : t.len (B.parent v) ≡ length (list_of B v) + s.len (B.parent v)
  pub len_rest : (p : ℕ) → p < v → B.parent v ≢ p → t.len p ≡ s.len p
  pub lo_up : t.lo (B.parent v) ≡ min (hi_of B v) (s.lo (B.parent v))
  pub lo_rest : (p : ℕ) → p < v → B.parent v ≢ p → t.lo p ≡ s.lo p
  pub lo2_up : t.lo2 (B.parent v) ≡ min (max (hi_of B v) (s.lo (B.parent v))) (s.lo2 (B.parent v))
  pub lo2_rest : (p : ℕ) → p < v → B.parent v ≢ p → t.lo2 p ≡ s.lo2 p
  pub ends_up : (p : ℕ) → p < v → t.ends p ≡ length (filter (λ x. nat_eq (B.dst x) p) (B.own v)) + s.ends p

-- before the loop
abbrev pub empty : {X : Type 0} → Base X → State X
empty B = record { items = λ _. []; len = λ _. 0; lo = λ _. B.size; lo2 = λ _. B.size; ends = λ _. 0 }

-- How the loop begins, what it has at v, and how it goes on.
pub record Turns (X : Type 0) (B : Base X) : Type 0 where
  pub start : Sofar B B.size (empty B)
  pub here : (v : ℕ) (s : State X) → v < B.size → Sofar B (suc v) s → Here B v s
  pub next : (v : ℕ) (s t : State X) (xs : List X) → 0 < v → v < B.size → Sofar B (suc v) s → Carries (shape_of B) v xs → Joins B v xs s t → Sofar B v t

-- Theorem: so it is whenever what is given fits together.
abbrev pub TurnsStand : Type 0
TurnsStand = (B : Base ℕ) → Ready B → Turns ℕ B

-- Theorem: no list has more items than there are, nor have the lists of the children of one number together.
pub record Bounded (P : Searched) : Type 0 where
  pub list : (k : ℕ) → k < P.size → length (list_of (base_of P) k) ≤ P.many + P.size
  pub kids : (k p : ℕ) → 0 < k → k ≤ P.size → p < P.size → length (flat (list_of (base_of P)) (sofar (base_of P) k p)) ≤ P.many + P.size

abbrev pub ListsBounded : Type 0
ListsBounded = (P : Searched) → Upward P → Bounded P
