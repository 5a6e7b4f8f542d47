-- The ten sample plans, with their rows, classes and calls.
use Rattle.std.specs.Prelude.{ℕ, suc, ◌<◌, List, [], ◌∷◌, length, replicate, Some, None, slice_index}
use Rattle.plan.specs.Makes.{turned}
use Rattle.model.specs.Meaning.{Meaning, Limits}
use Rattle.model.specs.Walks.{ClassName, Sound}
use Rattle.model.specs.Parts.{whole, fragment}
use Rattle.model.specs.Listing.{Row, row, Listing}
use Rattle.model.specs.History.{ok, refused, showing, restarting, finding, taking, giving, rejecting, History, Answered}
use Rattle.model.specs.declared.kinds.Kind.{Kind}
use Rattle.model.specs.declared.kinds.Kind.TheVariants.{Whole, Single, Choice, Loop, MeshAll}
use Rattle.model.specs.declared.numbers.Logic.{Logic}
use Rattle.model.specs.declared.numbers.Logic.TheVariants.{One, All}
use Rattle.theory.specs.Calls.{View, at_place, Run, Opened}

-- A plan with its rows, the class of each link, and calls of a book over it by any holder.
pub record Sample : Type 0 where
  pub plan : Meaning
  pub rows : List Row
  pub classes : List ℕ
  pub calls : ℕ → History

-- Steps 0 to n, from 0 to n.
abbrev pub path : ℕ → List Logic → List (ℕ × ℕ) → Meaning
path n logics links = record { graph = record { steps = suc n; links = links; first = 0; last = n }; logics = logics }

-- The same, each step of logic `one`.
abbrev pub of_one : ℕ → List (ℕ × ℕ) → Meaning
of_one n links = path n (replicate (suc n) One) links

-- Row 0 of a plan of n steps.
abbrev pub top : ℕ → Row
top n = record { part = whole; parent = None; kind = Whole; inside = n }

-- A row with its parent, kind, entry, exit and steps inside.
abbrev pub under : ℕ → Kind → ℕ → ℕ → ℕ → Row
under i k a b n = record { part = fragment a b; parent = Some i; kind = k; inside = n }

abbrev pub none : ℕ → History
none h = []

abbrev pub plan5 : Meaning
plan5 = of_one 5 ((0, 1) ∷ (1, 2) ∷ (2, 4) ∷ (1, 3) ∷ (3, 4) ∷ (4, 5) ∷ [])

abbrev pub rows5 : List Row
rows5 = top 6 ∷ under 0 Choice 0 5 4 ∷ under 1 Single 1 2 1 ∷ under 1 Single 3 4 1 ∷ []

abbrev pub plan6 : Meaning
plan6 = of_one 5 ((0, 1) ∷ (1, 2) ∷ (2, 3) ∷ (3, 4) ∷ (4, 1) ∷ (3, 5) ∷ [])

-- Of the tenth, the newest first: take 1; take 2 is refused with 62 at row 1; give back; take 2, take 3; take 0 is refused with 62 at row 2.
abbrev pub tenth : ℕ → History
tenth h =
    taking 0 h (refused 62 2) ∷ taking 3 h (ok tt) ∷ taking 2 h (ok tt) ∷ giving 0 (ok tt) ∷ taking 2 h (refused 62 1) ∷ taking 1 h (ok tt) ∷ []

-- The ten, the seventh twice: as it is, and with step 1 of logic `all`.
abbrev pub samples : List Sample
samples =
    record { plan = of_one 1 ((0, 1) ∷ []); rows = top 2 ∷ []; classes = 0 ∷ []; calls = none } ∷
    record { plan = of_one 1 ((0, 1) ∷ (0, 1) ∷ []); rows = top 2 ∷ []; classes = 0 ∷ 1 ∷ []; calls = none } ∷
    record { plan = of_one 2 ((0, 1) ∷ (1, 2) ∷ []); rows = top 3 ∷ under 0 Single 0 1 1 ∷ []; classes = 0 ∷ 0 ∷ []; calls = none } ∷
    record { plan = of_one 3 ((0, 1) ∷ (1, 2) ∷ (2, 3) ∷ []); rows = top 4 ∷ under 0 Single 0 1 1 ∷ under 0 Single 1 2 1 ∷ []; classes = 0 ∷ 0 ∷ 0 ∷ []; calls = none } ∷
    record { plan = plan5; rows = rows5; classes = 0 ∷ 1 ∷ 1 ∷ 3 ∷ 3 ∷ 0 ∷ []; calls = none } ∷
    record { plan = plan6; rows = top 6 ∷ under 0 Loop 0 5 4 ∷ under 1 Single 1 2 1 ∷ under 1 Single 3 4 1 ∷ []; classes = 0 ∷ 1 ∷ 1 ∷ 3 ∷ 3 ∷ 0 ∷ []; calls = none } ∷
    record { plan = of_one 2 ((0, 1) ∷ (1, 1) ∷ (1, 2) ∷ []); rows = top 3 ∷ under 0 Loop 0 2 1 ∷ []; classes = 0 ∷ 1 ∷ 0 ∷ []; calls = none } ∷
    record { plan = path 2 (One ∷ All ∷ One ∷ []) ((0, 1) ∷ (1, 1) ∷ (1, 2) ∷ []); rows = top 3 ∷ under 0 MeshAll 0 2 1 ∷ []; classes = 0 ∷ 1 ∷ 0 ∷ []; calls = none } ∷
    record { plan = turned plan6; rows = top 6 ∷ under 0 Loop 5 0 4 ∷ under 1 Single 2 1 1 ∷ under 1 Single 4 3 1 ∷ []; classes = 0 ∷ 1 ∷ 1 ∷ 3 ∷ 3 ∷ 0 ∷ []; calls = none } ∷
    record { plan = of_one 4 ((0, 1) ∷ (1, 2) ∷ (2, 1) ∷ (1, 3) ∷ (3, 1) ∷ (1, 4) ∷ []); rows = top 5 ∷ under 0 Loop 0 5 3 ∷ under 1 Single 1 2 1 ∷ under 1 Single 3 4 1 ∷ []; classes = 0 ∷ 1 ∷ 1 ∷ 3 ∷ 3 ∷ 0 ∷ []; calls = none } ∷
    record { plan = plan5; rows = rows5; classes = 0 ∷ 1 ∷ 1 ∷ 3 ∷ 3 ∷ 0 ∷ []; calls = tenth } ∷
    []

-- The others turned: the same classes, entry and exit exchanged, and so other rows first where two have one parent.
abbrev pub turned_samples : List Sample
turned_samples =
    record { plan = turned (of_one 1 ((0, 1) ∷ [])); rows = top 2 ∷ []; classes = 0 ∷ []; calls = none } ∷
    record { plan = turned (of_one 1 ((0, 1) ∷ (0, 1) ∷ [])); rows = top 2 ∷ []; classes = 0 ∷ 1 ∷ []; calls = none } ∷
    record { plan = turned (of_one 2 ((0, 1) ∷ (1, 2) ∷ [])); rows = top 3 ∷ under 0 Single 1 0 1 ∷ []; classes = 0 ∷ 0 ∷ []; calls = none } ∷
    record { plan = turned (of_one 3 ((0, 1) ∷ (1, 2) ∷ (2, 3) ∷ [])); rows = top 4 ∷ under 0 Single 1 0 1 ∷ under 0 Single 2 1 1 ∷ []; classes = 0 ∷ 0 ∷ 0 ∷ []; calls = none } ∷
    record { plan = turned plan5; rows = top 6 ∷ under 0 Choice 5 0 4 ∷ under 1 Single 2 1 1 ∷ under 1 Single 4 3 1 ∷ []; classes = 0 ∷ 1 ∷ 1 ∷ 3 ∷ 3 ∷ 0 ∷ []; calls = none } ∷
    record { plan = turned (of_one 2 ((0, 1) ∷ (1, 1) ∷ (1, 2) ∷ [])); rows = top 3 ∷ under 0 Loop 2 0 1 ∷ []; classes = 0 ∷ 1 ∷ 0 ∷ []; calls = none } ∷
    record { plan = turned (turned plan6); rows = top 6 ∷ under 0 Loop 0 5 4 ∷ under 1 Single 1 2 1 ∷ under 1 Single 3 4 1 ∷ []; classes = 0 ∷ 1 ∷ 1 ∷ 3 ∷ 3 ∷ 0 ∷ []; calls = none } ∷
    record { plan = turned (of_one 4 ((0, 1) ∷ (1, 2) ∷ (2, 1) ∷ (1, 3) ∷ (3, 1) ∷ (1, 4) ∷ [])); rows = top 5 ∷ under 0 Loop 5 0 3 ∷ under 1 Single 2 1 1 ∷ under 1 Single 4 3 1 ∷ []; classes = 0 ∷ 1 ∷ 1 ∷ 3 ∷ 3 ∷ 0 ∷ []; calls = none } ∷
    []

-- The sample is as the definitions say.
pub record Stands (x : Sample) : Type 0 where
  pub limits : Limits x.plan
  pub sound : Sound x.plan.graph
  pub listing : Listing x.plan x.rows
  pub classes : (l : ℕ) → l < length x.plan.graph.links → ClassName x.plan.graph l (slice_index x.classes l)
  pub answered : (h : ℕ) → Answered x.plan.graph x.rows (x.calls h)

abbrev pub AllStand : List Sample → Type 0
AllStand [] = Unit {0}
AllStand (x ∷ xs) = Stands x × AllStand xs

-- Theorem: each of the samples, and each turned one, has these rows and classes, and its calls these answers.
abbrev pub SamplesStand : Type 0
SamplesStand = AllStand samples × AllStand turned_samples

-- A book that is opened over plan 5, and a history of it, the newest call first, that has every call and every refusal.
abbrev pub book5 : View
book5 = record { rows = rows5; runs = 4 ∷ 3 ∷ 1 ∷ 1 ∷ []; marks = None ∷ None ∷ None ∷ None ∷ []; homes = 0 ∷ 1 ∷ 2 ∷ 3 ∷ 1 ∷ 0 ∷ []; place = 0 }

abbrev pub row5 : ℕ → Row
row5 i = row rows5 i

abbrev pub history5 : ℕ → History
history5 h =
    rejecting 1 h 63 1 ∷ giving 11 (ok tt) ∷ taking 7 h (refused 61 7) ∷ taking 2 h (refused 62 1) ∷ taking 1 h (ok tt) ∷ finding 9 (refused 64 9) ∷
    finding 4 (ok 1) ∷ showing (Some (1, row5 1)) ∷ showing (Some (0, row5 0)) ∷ restarting ∷ showing None ∷ showing None ∷ showing (Some (3, row5 3)) ∷
    showing (Some (2, row5 2)) ∷ showing (Some (1, row5 1)) ∷ showing (Some (0, row5 0)) ∷ []

-- Theorem: such a book and such a history are possible, so the law speaks of something.
abbrev pub BookHappens : Type 0
BookHappens = Opened plan5 book5 × ((h : ℕ) → Run book5 (history5 h) (at_place book5 2))
