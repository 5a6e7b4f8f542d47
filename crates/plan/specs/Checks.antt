-- Which frame may come next in a table, when a table is done, and which fault is told otherwise.
use Rattle.std.specs.Prelude.{◌≡◌, ℕ, ◌+◌, ◌*◌, ◌<◌, ◌≤◌, cond, ◌⊎◌, List, [], ◌∷◌, length, Some, None, Option, ◌==◌, ◌≢◌, slice_index}
use Rattle.model.specs.Meaning.{Meaning, EndsBelow}
use Rattle.plan.specs.Writing.{frames_of}
use Rattle.plan.specs.declared.faults.PlanFault.{PlanFault}
use Rattle.plan.specs.declared.faults.PlanFault.TheVariants.{Text, KindNotAllowed, WrongLength, BadLogic, TooManySteps, TooManyLinks, NoStep, Incomplete, BadEnds, Memory}

-- What frames have told is nothing before the head, and then the meaning so far, whose bounds hold at every stage.
pub record Bounded (μ : Meaning) : Type 0 where
  pub few_steps : μ.graph.steps ≤ 1024
  pub few_links : length μ.graph.links ≤ 2048
  pub ends_below : EndsBelow μ.graph.steps μ.graph.links
  pub logic_each : length μ.logics ≡ μ.graph.steps

abbrev pub Begun : Option Meaning → Type 0
Begun None = Unit {0}
Begun (Some μ) = Bounded μ

abbrev pub written : Option Meaning → List (List ℕ)
written None = []
written (Some μ) = frames_of μ

-- the frames so far are those of the beginning of a table
abbrev pub Begins : List (List ℕ) → Option Meaning → Type 0
Begins frames told = (frames ≡ written told) × Begun told

abbrev pub steps_told : Option Meaning → ℕ
steps_told None = 0
steps_told (Some μ) = μ.graph.steps

abbrev pub links_told : Option Meaning → ℕ
links_told None = 0
links_told (Some μ) = length μ.graph.links

-- the kinds that may follow: a head comes first and once, then steps, then links
abbrev pub Follows : Option Meaning → ℕ → Type 0
Follows None kind = kind ≡ 0x01
Follows (Some μ) kind = (kind ≡ 0x20) ⊎ ((kind ≡ 0x10) × (length μ.graph.links ≡ 0))

-- how many bytes the fields of a kind have
abbrev pub field_count : ℕ → ℕ
field_count kind = cond (kind == 0x10) 1 4

-- the number at this place of the fields, the high byte first
abbrev pub number_at : List ℕ → ℕ → ℕ
number_at fields k = slice_index fields k * 256 + slice_index fields (k + 1)

-- each fault of a line has a check: when the next frame, of this kind and with these fields, passes it
abbrev pub Passes : Option Meaning → ℕ → List ℕ → PlanFault → Type 0
Passes told kind fields (KindNotAllowed line) = Follows told kind
Passes told kind fields (WrongLength line) = length fields ≡ field_count kind
Passes told kind fields (BadLogic line) = kind ≡ 0x10 → slice_index fields 0 ≤ 1
Passes told kind fields (TooManySteps line) = kind ≡ 0x10 → steps_told told < 1024
Passes told kind fields (TooManyLinks line) = kind ≡ 0x20 → links_told told < 2048
Passes told kind fields (NoStep line) =
    kind ≡ 0x20 → (number_at fields 0 < steps_told told) × (number_at fields 2 < steps_told told)
Passes told kind fields (Text e) = Unit {0}
Passes told kind fields (Incomplete line) = Unit {0}
Passes told kind fields BadEnds = Unit {0}
Passes told kind fields Memory = Unit {0}

-- the first and the last step are two of the steps
abbrev pub GoodEnds : Option Meaning → Type 0
GoodEnds None = ⊥
GoodEnds (Some μ) =
    (μ.graph.first < μ.graph.steps) × (μ.graph.last < μ.graph.steps) × (μ.graph.first ≢ μ.graph.last)

-- each fault of the end has one too: when what all frames have told passes it; without a head there are no steps
abbrev pub Completes : Option Meaning → PlanFault → Type 0
Completes told (Incomplete line) = (2 ≤ steps_told told) × (1 ≤ links_told told)
Completes told BadEnds = GoodEnds told
Completes told (Text e) = Unit {0}
Completes told (KindNotAllowed line) = Unit {0}
Completes told (WrongLength line) = Unit {0}
Completes told (BadLogic line) = Unit {0}
Completes told (TooManySteps line) = Unit {0}
Completes told (TooManyLinks line) = Unit {0}
Completes told (NoStep line) = Unit {0}
Completes told Memory = Unit {0}

-- the faults of a line and those of the end, in the order of their checks
abbrev pub line_faults : ℕ → List PlanFault
line_faults n =
    KindNotAllowed n ∷ WrongLength n ∷ BadLogic n ∷ TooManySteps n ∷ TooManyLinks n ∷ NoStep n ∷ []

abbrev pub end_faults : ℕ → List PlanFault
end_faults n = Incomplete n ∷ BadEnds ∷ []

-- the first of these faults whose check is not passed
abbrev pub First : (PlanFault → Type 0) → List PlanFault → PlanFault → Type 0
First passes [] e = ⊥
First passes (f ∷ fs) e = ((f ≡ e) × (passes f → ⊥)) ⊎ (passes f × First passes fs e)

-- what is told of the frame of line n, after frames that told this
abbrev pub Faulty : Option Meaning → ℕ → ℕ → List ℕ → PlanFault → Type 0
Faulty told n kind fields = First (Passes told kind fields) (line_faults n)

-- what is told at the end, the last line being n
abbrev pub Unfinished : Option Meaning → ℕ → PlanFault → Type 0
Unfinished told n = First (Completes told) (end_faults n)
