-- A second look at the definitions: statements that would fail if one of them were subtly wrong.
use Rattle.std.specs.Prelude.{ℕ, List, [], ◌∷◌}
use Rattle.model.specs.Meaning.{Meaning}
use Rattle.model.specs.Walks.{closed, Walks, Passes, Share, ClassName, Leads, SingleEntryExit, Canonical, Inside, Sound}
use Rattle.model.specs.Parts.{fragment, Own}
use Rattle.model.specs.Kinds.{Branches, Opens, Closes}
use Rattle.model.specs.Listing.{Row}
use Rattle.model.specs.declared.kinds.Kind.{Kind}
use Rattle.model.specs.declared.kinds.Kind.TheVariants.{Single, Choice, Parallel, MeshOne, Mixed}
use Rattle.model.specs.declared.numbers.Logic.{Logic}
use Rattle.model.specs.declared.numbers.Logic.TheVariants.{One, All}
use Rattle.samples_theory.specs.Samples.{Sample, path, top, under, plan5, plan6, Stands, AllStand, none, of_one}

-- Inside is not dominance. In plan 6 every walk from first to step 4 passes link 1, and every walk from there to last passes link 2; yet step 4 is not
-- inside the canonical fragment (1, 2): it is reached from the head of 1 only by way of 2.
pub record InsideNotDominance : Type 0 where
  pub canonical : Canonical plan6.graph 1 2
  pub before : (ks : List ℕ) → Walks plan6.graph.links 0 ks 4 → Passes 1 ks
  pub behind : (ks : List ℕ) → Walks plan6.graph.links 4 ks 5 → Passes 2 ks
  pub outside : Inside plan6.graph 1 2 4 → ⊥

-- Not every pair of a class is canonical. In plan 4, a path of three links, (0, 2) is single-entry single-exit, but link 1 stands between.
abbrev pub plan4 : Meaning
plan4 = of_one 3 ((0, 1) ∷ (1, 2) ∷ (2, 3) ∷ [])

abbrev pub PairNotCanonical : Type 0
PairNotCanonical = SingleEntryExit plan4.graph 0 2 × (Canonical plan4.graph 0 2 → ⊥)

-- Links are neither all alone nor all together: in plan 5 links 1 and 2 share a class, and links 1 and 3 do not.
abbrev pub ClassesDiffer : Type 0
ClassesDiffer = Share (closed plan5.graph) 1 2 × (Share (closed plan5.graph) 1 3 → ⊥)

-- Leading alone makes no pair, nor does sharing alone. In plan 6 link 1 leads link 3 but goes round without it; links 1 and 2 share a class, but 2 does not lead 1.
abbrev pub BothAreNeeded : Type 0
BothAreNeeded =
    Leads plan6.graph 1 3 × (Share (closed plan6.graph) 1 3 → ⊥) × Share (closed plan6.graph) 2 1 × (Leads plan6.graph 2 1 → ⊥)

-- The return link shares a class with links of the plan, but names none: in the plan of one link, link 0 and the return link 1 share, and 0 names the class.
abbrev pub plan1 : Meaning
plan1 = of_one 1 ((0, 1) ∷ [])

abbrev pub ReturnNamesNone : Type 0
ReturnNamesNone = Share (closed plan1.graph) 0 1 × ClassName plan1.graph 0 0

-- A link with equal ends both enters and leaves its step: in plan 7 step 1 has two in and two out, so it branches and neither opens nor closes.
abbrev pub plan7 : Meaning
plan7 = of_one 2 ((0, 1) ∷ (1, 1) ∷ (1, 2) ∷ [])

abbrev pub EqualEndsBranch : Type 0
EqualEndsBranch = Branches plan7.graph 1 × (Opens plan7.graph 1 → ⊥) × (Closes plan7.graph 1 → ⊥)

-- Own is more than inside: steps 1 and 2 of plan 5 are both inside (0, 5), but step 2 is inside (1, 2), which has fewer steps, and so only step 1 is own.
abbrev pub OwnIsMore : Type 0
OwnIsMore = Own plan5.graph (fragment 0 5) 1 × Inside plan5.graph 0 5 2 × (Own plan5.graph (fragment 0 5) 2 → ⊥)

-- Each condition of soundness is needed: a link enters first, a link leaves last, a step is not reached, a step does not reach last.
abbrev pub Unsound : Meaning → Type 0
Unsound μ = Sound μ.graph → ⊥

abbrev pub SoundnessRefuses : Type 0
SoundnessRefuses =
    Unsound (of_one 2 ((0, 1) ∷ (1, 0) ∷ (1, 2) ∷ [])) × Unsound (of_one 2 ((0, 1) ∷ (1, 2) ∷ (2, 1) ∷ [])) ×
    Unsound (of_one 3 ((0, 1) ∷ (2, 1) ∷ (1, 3) ∷ [])) × Unsound (of_one 3 ((0, 1) ∷ (1, 2) ∷ (1, 3) ∷ []))

-- Further plans with their rows and classes.
abbrev pub fork : List Logic → Meaning
fork logics = path 5 logics plan5.graph.links

abbrev pub rows_of_fork : Kind → List Row
rows_of_fork k = top 6 ∷ under 0 k 0 5 4 ∷ under 1 Single 1 2 1 ∷ under 1 Single 3 4 1 ∷ []

abbrev pub classes_of_fork : List ℕ
classes_of_fork = 0 ∷ 1 ∷ 1 ∷ 3 ∷ 3 ∷ 0 ∷ []

-- Two classes whose links alternate: the fork with its links numbered across the branches. Neighbours are neighbours in their class, not in the plan.
abbrev pub interleaved : Sample
interleaved =
    record {
      plan = of_one 5 ((0, 1) ∷ (1, 2) ∷ (1, 3) ∷ (2, 4) ∷ (3, 4) ∷ (4, 5) ∷ []);
      rows = top 6 ∷ under 0 Choice 0 5 4 ∷ under 1 Single 1 3 1 ∷ under 1 Single 2 4 1 ∷ [];
      classes = 0 ∷ 1 ∷ 2 ∷ 1 ∷ 2 ∷ 0 ∷ [];
      calls = none;
    }

abbrev pub ClassesInterleave : Type 0
ClassesInterleave = Stands interleaved

-- Rows of one parent stand by entry link and not by the order of steps: a path whose second link has number 0.
abbrev pub by_entry : Sample
by_entry =
    record {
      plan = of_one 3 ((1, 2) ∷ (0, 1) ∷ (2, 3) ∷ []);
      rows = top 4 ∷ under 0 Single 0 2 1 ∷ under 0 Single 1 0 1 ∷ [];
      classes = 0 ∷ 0 ∷ 0 ∷ [];
      calls = none;
    }

-- A fragment within a fragment within a fragment: the parent is the smallest, not any that contains the row.
abbrev pub deep : Sample
deep =
    record {
      plan = of_one 7 ((0, 1) ∷ (1, 2) ∷ (2, 3) ∷ (2, 4) ∷ (3, 5) ∷ (4, 5) ∷ (5, 6) ∷ (1, 6) ∷ (6, 7) ∷ []);
      rows = top 8 ∷ under 0 Choice 0 8 6 ∷ under 1 Choice 1 6 4 ∷ under 2 Single 2 4 1 ∷ under 2 Single 3 5 1 ∷ [];
      classes = 0 ∷ 1 ∷ 2 ∷ 3 ∷ 2 ∷ 3 ∷ 1 ∷ 7 ∷ 0 ∷ [];
      calls = none;
    }

-- The other kinds. Only the logic of own steps counts: in the last of the forks step 2, of logic `all`, is not the fork's own.
abbrev pub kinds : List Sample
kinds =
    record { plan = fork (One ∷ All ∷ One ∷ One ∷ All ∷ One ∷ []); rows = rows_of_fork Parallel; classes = classes_of_fork; calls = none } ∷
    record { plan = fork (One ∷ One ∷ One ∷ One ∷ All ∷ One ∷ []); rows = rows_of_fork Mixed; classes = classes_of_fork; calls = none } ∷
    record { plan = fork (One ∷ One ∷ All ∷ One ∷ One ∷ One ∷ []); rows = rows_of_fork Choice; classes = classes_of_fork; calls = none } ∷
    record {
      plan = of_one 5 ((0, 1) ∷ (1, 2) ∷ (1, 3) ∷ (2, 3) ∷ (2, 4) ∷ (3, 4) ∷ (4, 5) ∷ []);
      rows = top 6 ∷ under 0 MeshOne 0 6 4 ∷ [];
      classes = 0 ∷ 1 ∷ 2 ∷ 3 ∷ 4 ∷ 5 ∷ 0 ∷ [];
      calls = none;
    } ∷
    []

abbrev pub FurtherStand : Type 0
FurtherStand = Stands by_entry × Stands deep × AllStand kinds
