-- What one frame tells.
use Rattle.std.specs.Prelude.{◌≡◌, ℕ, ◌≤◌, ◌⊎◌, [], ◌∷◌, length, Ok, Err, vec_items, Result, MatchResult, ◌≢◌, slice_index}
use Rattle.model.specs.Words.{logic_number}
use Rattle.model.specs.declared.numbers.Logic.{Logic}
use Rattle.model.specs.declared.numbers.StepNo.{StepNo}
use Rattle.text.specs.declared.lines.Frame.{Frame}
use Rattle.plan.specs.Writing.{two_numbers}
use Rattle.plan.specs.declared.faults.PlanFault.{PlanFault}
use Rattle.plan.specs.declared.faults.PlanFault.TheVariants.{WrongLength, BadLogic}
use Rattle.plan.specs.declared.gateway.frames.FrameKind.{FrameKind}
use Rattle.plan.specs.declared.gateway.frames.FrameKind.TheVariants.{Head, Step, Link}
use Rattle.plan.specs.declared.gateway.frames.NotAKind.{NotAKind}

-- the byte that names each kind
abbrev pub kind_byte : FrameKind → ℕ
kind_byte Head = 0x01
kind_byte Step = 0x10
kind_byte Link = 0x20

-- r is the kind that the byte names, or tells the byte where it names none
abbrev pub NamesKind : ℕ → Result FrameKind NotAKind → Type 0
NamesKind b r =
    MatchResult r (λ kind. kind_byte kind ≡ b) (λ e. (e.0 ≡ b) × (b ≢ 0x01) × (b ≢ 0x10) × (b ≢ 0x20))

-- the two numbers of a head or a link, unless the fields are too short or too long
abbrev pub TwoSteps : Frame → Result (StepNo × StepNo) PlanFault → Type 0
TwoSteps f (Ok p) = vec_items f.fields ≡ two_numbers p.0.0 p.1.0
TwoSteps f (Err e) = (e ≡ WrongLength f.line) × (length (vec_items f.fields) ≢ 4)

-- the logic of a step, unless the fields are too short or too long, or their byte is no logic
abbrev pub StepLogic : Frame → Result Logic PlanFault → Type 0
StepLogic f (Ok l) = vec_items f.fields ≡ logic_number l ∷ []
StepLogic f (Err e) =
    ((e ≡ WrongLength f.line) × (length (vec_items f.fields) ≢ 1))
    ⊎ ((e ≡ BadLogic f.line) × (length (vec_items f.fields) ≡ 1) × (slice_index (vec_items f.fields) 0 ≤ 1 → ⊥))
