-- What soundness asks, one part at a time.
use Rattle.std.specs.Prelude.{ℕ, ◌<◌, List, length, ◌≢◌}
use Rattle.model.specs.declared.numbers.Ends.{Ends}
use Rattle.model.specs.Meaning.{Graph, tail_of, head_of}
use Rattle.model.specs.Walks.{Walks}

-- some walk leads from u to v
abbrev pub LeadsTo : List (ℕ × ℕ) → ℕ → ℕ → Type 0
LeadsTo G u v = ∥ ((ks : List ℕ) × Walks G u ks v) ∥₁

-- no link enters the first step
abbrev pub NoneIn : Graph → Type 0
NoneIn P = (k : ℕ) → k < length P.links → head_of P.links k ≢ P.first

-- no link leaves the last step
abbrev pub NoneOut : Graph → Type 0
NoneOut P = (k : ℕ) → k < length P.links → tail_of P.links k ≢ P.last

-- the ends of the link that leads the other way
abbrev pub turned_ends : Ends → Ends
turned_ends e = record { tail = e.head; head = e.tail }
