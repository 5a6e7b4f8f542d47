-- The kind of a part, by the steps of its own.
use Rattle.std.specs.Prelude.{◌≡◌, ℕ, ◌<◌, ◌≤◌, ◌⊎◌, length, nat_eq, slice_index_or}
use Rattle.model.specs.declared.kinds.Kind.{Kind}
use Rattle.model.specs.declared.kinds.Kind.TheVariants.{Whole, Single, Choice, Parallel, Loop, MeshOne, MeshAll, Mixed}
use Rattle.model.specs.declared.numbers.Logic.{Logic}
use Rattle.model.specs.declared.numbers.Logic.TheVariants.{One, All}
use Rattle.model.specs.Meaning.{Graph, Meaning, tail_of, head_of}
use Rattle.model.specs.Words.{kind_number}
use Rattle.model.specs.Parts.{Part, whole, fragment, how_many, Exactly, Own}

-- How many links of the plan enter step s, and how many leave it.
abbrev pub ins : Graph → ℕ → ℕ
ins g s = how_many (λ k. nat_eq (head_of g.links k) s) (length g.links)

abbrev pub outs : Graph → ℕ → ℕ
outs g s = how_many (λ k. nat_eq (tail_of g.links k) s) (length g.links)

-- A step branches when two or more links enter it, or two or more leave it.
abbrev pub Branches : Graph → ℕ → Type 0
Branches g s = (2 ≤ ins g s) ⊎ (2 ≤ outs g s)

-- It opens with one in and several out, and closes with several in and one out.
abbrev pub Opens : Graph → ℕ → Type 0
Opens g s = (ins g s ≡ 1) × (2 ≤ outs g s)

abbrev pub Closes : Graph → ℕ → Type 0
Closes g s = (2 ≤ ins g s) × (outs g s ≡ 1)

abbrev pub logic_at : Meaning → ℕ → Logic
logic_at μ s = slice_index_or μ.logics s One

-- Of the fragment (a, b):
module _ (μ : Meaning) (a b : ℕ) where
  -- its own steps
  abbrev pub OwnStep : ℕ → Type 0
  OwnStep s = Own μ.graph (fragment a b) s

  -- the steps where it begins and ends
  abbrev pub entry_head : ℕ
  entry_head = head_of μ.graph.links a

  abbrev pub exit_tail : ℕ
  exit_tail = tail_of μ.graph.links b

  -- it has exactly k own steps, all of logic l
  abbrev pub Only : ℕ → Logic → Type 0
  Only k l = Exactly k μ.graph.steps OwnStep × ((s : ℕ) → OwnStep s → logic_at μ s ≡ l)

  -- its own steps that branch are all of logic l
  abbrev pub Mesh : Logic → Type 0
  Mesh l = (s : ℕ) → OwnStep s → Branches μ.graph s → logic_at μ s ≡ l

  -- the condition of each kind
  abbrev pub Fits : Kind → Type 0
  Fits Whole = ⊥
  Fits Single = (s : ℕ) → OwnStep s → Branches μ.graph s → ⊥
  Fits Choice = Only 2 One × Opens μ.graph entry_head × Closes μ.graph exit_tail
  Fits Parallel = Only 2 All × Opens μ.graph entry_head × Closes μ.graph exit_tail
  Fits Loop = (Only 2 One × Closes μ.graph entry_head × Opens μ.graph exit_tail) ⊎ (Only 1 One × ((s : ℕ) → OwnStep s → Branches μ.graph s))
  Fits MeshOne = Mesh One
  Fits MeshAll = Mesh All
  Fits Mixed = Unit {0}

-- The kind of a fragment is the first whose condition it meets; the whole plan has a kind of its own.
abbrev pub KindOf : Meaning → Part → Kind → Type 0
KindOf μ whole k = k ≡ Whole
KindOf μ (fragment a b) k = Fits μ a b k × ((j : Kind) → kind_number j < kind_number k → Fits μ a b j → ⊥)
