-- Turning twice gives the meaning back.
use Rattle.std.proofs.Common.{ℕ, List, ap, ◌∙◌}
use Rattle.std.proofs.lemmas.List.{map-id}
use mathlib.Core.List.{map-map}
use Rattle.plan.specs.Laws.{TurnedTwice}
use Rattle.plan.specs.Makes.{swapped}

pub turned_twice : TurnedTwice
turned_twice μ =
    ap (λ (links : List (ℕ × ℕ)). record { graph = record { steps = μ.graph.steps; links = links; first = μ.graph.first; last = μ.graph.last }; logics = μ.logics })
    (map-map swapped swapped μ.graph.links ∙ map-id μ.graph.links)
