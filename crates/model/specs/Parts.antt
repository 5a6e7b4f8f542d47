-- The parts of a plan that rows stand for, how many steps are inside, and which steps are a part's own.
use Rattle.std.specs.Prelude.{◌≡◌, ℕ, zero, suc, ◌+◌, ◌<◌, Bool, true, cond, ◌↔◌}
use Rattle.model.specs.Meaning.{Graph}
use Rattle.model.specs.Walks.{Canonical, Inside}

-- The whole plan, or the fragment of an entry and an exit.
pub data Part : Type 0 where
  whole : Part
  fragment : ℕ → ℕ → Part

-- Step s is inside the part. All steps are inside the whole plan.
abbrev pub In : Graph → Part → ℕ → Type 0
In g whole s = s < g.steps
In g (fragment a b) s = Inside g a b s

-- The whole plan or a canonical fragment: what has a row.
abbrev pub Proper : Graph → Part → Type 0
Proper g whole = Unit {0}
Proper g (fragment a b) = Canonical g a b

-- p has all steps of q.
abbrev pub Holds : Graph → Part → Part → Type 0
Holds g p q = (s : ℕ) → In g q s → In g p s

-- p and q have no step in common.
abbrev pub Apart : Graph → Part → Part → Type 0
Apart g p q = (s : ℕ) → In g p s → In g q s → ⊥

-- p and q clash: some step is inside both.
abbrev pub Clash : Graph → Part → Part → Type 0
Clash g p q = ∥ ((s : ℕ) × In g p s × In g q s) ∥₁

-- How many numbers below n pass the test.
abbrev pub how_many : (ℕ → Bool) → ℕ → ℕ
how_many t zero = 0
how_many t (suc n) = cond (t n) 1 0 + how_many t n

-- Exactly k of the numbers below n are such: a test tells which, and k pass it.
abbrev pub Exactly : ℕ → ℕ → (ℕ → Type 0) → Type 0
Exactly k n Such = (t : ℕ → Bool) × ((s : ℕ) → s < n → ((t s ≡ true) ↔ Such s)) × (how_many t n ≡ k)

-- Exactly k steps are inside the part.
abbrev pub Counted : Graph → Part → ℕ → Type 0
Counted g p k = Exactly k g.steps (In g p)

-- p has fewer steps than q.
abbrev pub Fewer : Graph → Part → Part → Type 0
Fewer g p q = (j : ℕ) × (k : ℕ) × Counted g p j × Counted g q k × (j < k)

-- Step s is the part's own: it is inside, and inside no canonical fragment with fewer steps.
pub record Own (g : Graph) (p : Part) (s : ℕ) : Type 0 where
  pub inside : In g p s
  pub innermost : (c d : ℕ) → Canonical g c d → Fewer g (fragment c d) p → Inside g c d s → ⊥
