-- The meanings of the makes of plan: that of the smallest plan, and that of a turned one.
use Rattle.std.specs.Prelude.{◌≡◌, ℕ, List, [], ◌∷◌, map, length, slice_index_or}
use Rattle.std.proofs.Common.{sym}
use Rattle.std.proofs.Math.ListN.{get_or-map}
use Rattle.std.proofs.lemmas.List.{length-map}
use Rattle.model.specs.declared.numbers.Ends.{Ends}
use Rattle.model.specs.declared.numbers.Logic.{Logic}
use Rattle.model.specs.declared.numbers.Logic.TheVariants.{One}
use Rattle.model.specs.Meaning.{Meaning, Limits, EndsBelow, pair_of, ends_from, tail_of, head_of}

-- the meaning of a table of links and logics
abbrev pub table_meaning : List Ends → List Logic → ℕ → ℕ → Meaning
table_meaning links logics first last =
    record { graph = record { steps = length logics; links = map pair_of links; first = first; last = last }; logics = logics }

-- the smallest plan: one link from step 0 to step 1, both `one`
abbrev pub one_link : List Ends
one_link = ends_from (0, 1) ∷ []

abbrev pub two_logics : List Logic
two_logics = One ∷ One ∷ []

abbrev pub smallest : Meaning
smallest = table_meaning one_link two_logics 0 1

abbrev pub swapped : ℕ × ℕ → ℕ × ℕ
swapped p = (p.1, p.0)

-- every link runs the other way, first and last change places, and the rest is the same
abbrev pub turned : Meaning → Meaning
turned μ =
    record { graph = record { steps = μ.graph.steps; links = map swapped μ.graph.links; first = μ.graph.last; last = μ.graph.first }; logics = μ.logics }

pub get_or_swapped : (xs : List (ℕ × ℕ)) (k : ℕ) → slice_index_or (map swapped xs) k (0, 0) ≡ swapped (slice_index_or xs k (0, 0))
get_or_swapped xs k = get_or-map swapped xs k (0, 0)

pub turned_limits : (μ : Meaning) → Limits μ → Limits (turned μ)
turned_limits μ h =
    record {
      some_steps = h.some_steps;
      few_steps = h.few_steps;
      some_links = rw length-map h.some_links;
      few_links = rw length-map h.few_links;
      ends_below = below;
      first_below = h.last_below;
      last_below = h.first_below;
      apart = λ e. h.apart (sym e);
      logic_each = h.logic_each;
    }
  where
    below : EndsBelow μ.graph.steps (map swapped μ.graph.links)
    below k lt =
        let e = get_or_swapped μ.graph.links k in
        let w = h.ends_below k (rw length-map at lt) in
        (rw (tail_of, e) w.1, rw (head_of, e) w.0)
