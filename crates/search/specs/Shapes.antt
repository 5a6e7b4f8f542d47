-- The shape of a plan: the order of search of a sound one, or the first thing that is wrong, at the smallest link or step.
use Rattle.std.specs.Prelude.{◌≡◌, ℕ, ◌<◌, List, length, Some, None, Option, ◌≢◌}
use Rattle.model.specs.declared.numbers.LinkNo.{LinkNo}
use Rattle.model.specs.declared.refusals.Layer.TheVariants.{Shape}
use Rattle.model.specs.declared.refusals.Place.TheVariants.{At}
use Rattle.model.specs.declared.refusals.Refusal.{Refusal}
use Rattle.model.specs.Meaning.{Graph, tail_of, head_of}
use Rattle.search.specs.declared.shapes.ShapeFault.{ShapeFault}
use Rattle.search.specs.declared.shapes.ShapeFault.TheVariants.{EntersFirst, LeavesLast, NotReached, NoWayOut, Memory}
use Rattle.search.specs.Searched.{InOrder, link_at}
use Rattle.model.specs.Walks.{Sound}
use Rattle.search.specs.Walks.{NoneIn, NoneOut, LeadsTo}

-- the number, the layer and the place of each fault
abbrev pub shape_refusal : ShapeFault → Option Refusal
shape_refusal (EntersFirst l) = Some (record { number = 42; layer = Shape; place = At l.0 })
shape_refusal (LeavesLast l) = Some (record { number = 43; layer = Shape; place = At l.0 })
shape_refusal (NotReached s) = Some (record { number = 44; layer = Shape; place = At s.0 })
shape_refusal (NoWayOut s) = Some (record { number = 45; layer = Shape; place = At s.0 })
shape_refusal Memory = None

-- the plan is sound, and all its links stand in an order of search from the first step
pub record Shaped (P : Graph) (order : List LinkNo) : Type 0 where
  pub sound : Sound P
  pub in_order : InOrder P.links P.first order
  pub whole : (k : ℕ) → k < length P.links → (i : ℕ) × (i < length order) × (link_at order i ≡ k)

-- when each fault is told: what comes before it is right, and no smaller link or step is at fault
abbrev pub Misshaped : Graph → ShapeFault → Type 0
Misshaped P (EntersFirst l) =
    (l.0 < length P.links) × (head_of P.links l.0 ≡ P.first) × ((k : ℕ) → k < l.0 → head_of P.links k ≢ P.first)
Misshaped P (LeavesLast l) =
    NoneIn P × (l.0 < length P.links) × (tail_of P.links l.0 ≡ P.last) × ((k : ℕ) → k < l.0 → tail_of P.links k ≢ P.last)
Misshaped P (NotReached s) =
    NoneIn P × NoneOut P × (s.0 < P.steps) × (LeadsTo P.links P.first s.0 → ⊥) × ((v : ℕ) → v < s.0 → LeadsTo P.links P.first v)
Misshaped P (NoWayOut s) =
    NoneIn P × NoneOut P × ((v : ℕ) → v < P.steps → LeadsTo P.links P.first v)
    × (s.0 < P.steps) × (LeadsTo P.links s.0 P.last → ⊥) × ((v : ℕ) → v < s.0 → LeadsTo P.links v P.last)
Misshaped P Memory = Unit {0}
