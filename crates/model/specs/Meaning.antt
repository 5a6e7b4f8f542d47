-- What a plan means: a graph of steps and links from a first to a last step, and a logic for each step.
use Rattle.std.specs.Prelude.{◌≡◌, ℕ, ◌<◌, ◌≤◌, cond, List, length, get_or, Some, None, Option, nat_lt, slice_index_or}
use Rattle.model.specs.declared.numbers.Ends.{Ends}
use Rattle.model.specs.declared.numbers.Logic.{Logic}
use Rattle.model.specs.declared.numbers.Logic.TheVariants.{One}

-- A link is a pair: the step it starts from, its tail, and the step it leads to, its head.
pub record Graph : Type 0 where
  pub steps : ℕ
  pub links : List (ℕ × ℕ)
  pub first : ℕ
  pub last : ℕ

pub record Meaning : Type 0 where
  pub graph : Graph
  pub logics : List Logic

abbrev pub tail_of : List (ℕ × ℕ) → ℕ → ℕ
tail_of links k = (get_or links k (0, 0)).0

abbrev pub head_of : List (ℕ × ℕ) → ℕ → ℕ
head_of links k = (get_or links k (0, 0)).1

-- both ends of each link are steps
abbrev pub EndsBelow : ℕ → List (ℕ × ℕ) → Type 0
EndsBelow n links = (k : ℕ) → k < length links → (tail_of links k < n) × (head_of links k < n)

-- the bounds that every plan keeps
pub record Limits (μ : Meaning) : Type 0 where
  pub some_steps : 2 ≤ μ.graph.steps
  pub few_steps : μ.graph.steps ≤ 1024
  pub some_links : 1 ≤ length μ.graph.links
  pub few_links : length μ.graph.links ≤ 2048
  pub ends_below : EndsBelow μ.graph.steps μ.graph.links
  pub first_below : μ.graph.first < μ.graph.steps
  pub last_below : μ.graph.last < μ.graph.steps
  pub apart : μ.graph.first ≡ μ.graph.last → ⊥
  pub logic_each : length μ.logics ≡ μ.graph.steps

-- the pair that a link's ends stand for, and back
abbrev pub pair_of : Ends → ℕ × ℕ
pair_of e = (e.tail.0, e.head.0)

abbrev pub ends_from : ℕ × ℕ → Ends
ends_from p = record { tail = record { 0 = p.0 }; head = record { 0 = p.1 } }

-- the ends of link k and the logic of step k; none past the last number
abbrev pub ends_of : Meaning → ℕ → Option Ends
ends_of μ k = cond (nat_lt k (length μ.graph.links)) (Some (ends_from (slice_index_or μ.graph.links k (0, 0)))) None

abbrev pub logic_of : Meaning → ℕ → Option Logic
logic_of μ k = cond (nat_lt k (length μ.logics)) (Some (slice_index_or μ.logics k One)) None
