-- What reading a text answers, and what the table then means.
use Rattle.std.specs.Prelude.{◌≡◌, ℕ, ◌+◌, ◌≤◌, ◌⊎◌, List, ◌∷◌, ◌++◌, length, None, Ok, Err, Option, Result, MatchResult}
use Rattle.model.specs.Meaning.{Meaning, Limits}
use Rattle.text.specs.Decoded.{frames_in, Read, Decoded}
use Rattle.text.specs.Spelling.{Spells}
use Rattle.text.specs.declared.decoding.Frames.{Frames}
use Rattle.text.specs.declared.faults.TextFault.{TextFault}
use Rattle.plan.specs.Checks.{Begins, Faulty, Unfinished}
use Rattle.plan.specs.Refused.{plan_refusal}
use Rattle.plan.specs.Writing.{frames_of}
use Rattle.plan.specs.declared.faults.PlanFault.{PlanFault}
use Rattle.plan.specs.declared.faults.PlanFault.TheVariants.{Text, Memory}

-- these frames begin as a table, up to one that may not come there; frame k is that of line k + 1
pub record Stray (frames : List (List ℕ)) (e : PlanFault) : Type 0 where
  pub before : List (List ℕ)
  pub kind : ℕ
  pub fields : List ℕ
  pub after : List (List ℕ)
  pub parts : frames ≡ before ++ ((kind ∷ fields) ∷ after)
  pub told : Option Meaning
  pub begins : Begins before told
  pub faulty : Faulty told (length before + 1) kind fields e

-- they begin as a table, and the next line spells no frame: the text's fault is carried whole
pub record CutShort (frames : List (List ℕ)) (end : Result (Unit {0}) TextFault) (e : PlanFault) : Type 0 where
  pub told : Option Meaning
  pub begins : Begins frames told
  pub fault : TextFault
  pub stops : end ≡ Err fault
  pub carried : e ≡ Text fault

-- they begin as a table and are all that there is, and yet make none
pub record Unmade (frames : List (List ℕ)) (end : Result (Unit {0}) TextFault) (e : PlanFault) : Type 0 where
  pub told : Option Meaning
  pub begins : Begins frames told
  pub ends : end ≡ Ok tt
  pub faulty : Unfinished told (length frames) e

-- the earliest faulty line of a text with these frames, where they end so; or else what is wrong at the end
abbrev pub FaultIn : List (List ℕ) → Result (Unit {0}) TextFault → PlanFault → Type 0
FaultIn frames end e = Stray frames e ⊎ (CutShort frames end e ⊎ Unmade frames end e)

-- why a text is turned away: first for a fault of the text as a whole, then for a fault in its frames; or memory is wanting
abbrev pub Refused : List ℕ → PlanFault → Type 0
Refused text e =
    ((t : TextFault) × (e ≡ Text t) × Decoded text (Err t))
    ⊎ (((out : Frames) × Read text out × FaultIn (frames_in out) out.end e) ⊎ (e ≡ Memory))

-- the answer to a text and the meaning after it, by the meaning before: the text writes a table, which is then meant, or the meaning stays
abbrev pub Reading : List ℕ → Meaning → Result (Unit {0}) PlanFault → Meaning → Type 0
Reading text before (Ok x) after = (length text ≤ 65535) × Limits after × Spells text (frames_of after)
Reading text before (Err e) after = (after ≡ before) × Refused text e

-- the answer is that memory is wanting, which has no number
abbrev pub NoMemory : Result (Unit {0}) PlanFault → Type 0
NoMemory r = MatchResult r (λ _. ⊥) (λ e. plan_refusal e ≡ None)

-- what was written is given back, where memory does not fail
abbrev pub GivesBack : List ℕ → Result (Unit {0}) PlanFault → Meaning → Type 0
GivesBack text r after = (μ : Meaning) → Limits μ → length text ≤ 65535 → Spells text (frames_of μ) → MatchResult r (λ _. after ≡ μ) (λ e. plan_refusal e ≡ None)
