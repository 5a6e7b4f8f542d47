-- What holds of plans, of writing and of reading as a whole.
use Rattle.std.specs.Prelude.{◌≡◌, ℕ, List, Result}
use Rattle.model.specs.Meaning.{Meaning, Limits}
use Rattle.plan.specs.Makes.{turned}
use Rattle.plan.specs.Reading.{Reading, NoMemory, GivesBack}
use Rattle.plan.specs.Writing.{frames_of}
use Rattle.plan.specs.declared.faults.PlanFault.{PlanFault}

-- turning twice gives the meaning back
abbrev pub TurnedTwice : Type 0
TurnedTwice = (μ : Meaning) → turned (turned μ) ≡ μ

-- plans that are written alike are the same
abbrev pub WritingTells : Type 0
WritingTells = (μ ν : Meaning) → Limits μ → Limits ν → frames_of μ ≡ frames_of ν → μ ≡ ν

-- a text that writes a table has no other answer than that table
abbrev pub WrittenIsRead : Type 0
WrittenIsRead = (text : List ℕ) (before after : Meaning) (r : Result (Unit {0}) PlanFault) → Reading text before r after → GivesBack text r after

-- where memory does not fail, a text has one answer, and leaves one meaning
abbrev pub OneReading : Type 0
OneReading = (text : List ℕ) (before after after' : Meaning) (q r : Result (Unit {0}) PlanFault) → Reading text before q after → Reading text before r after' → (NoMemory q → ⊥) → (NoMemory r → ⊥) → (q ≡ r) × (after ≡ after')
