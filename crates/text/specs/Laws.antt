-- What holds of spelling and reading as a whole.
use Rattle.std.specs.Prelude.{◌≡◌, ℕ, true, List, is_ok, Ok, Err, Result, ◌≢◌}
use Rattle.std.specs.List.{AllByRecursion}
use Rattle.text.specs.Decoded.{IsFrame, frames_in, Read, Decoded}
use Rattle.text.specs.Spelling.{spelled, Spells}
use Rattle.text.specs.declared.decoding.Frames.{Frames}
use Rattle.text.specs.declared.faults.TextFault.{TextFault}
use Rattle.text.specs.declared.faults.TextFault.TheVariants.{Memory}

-- all frames can be spelled
abbrev pub SpellingServes : Type 0
SpellingServes = (fs : List (List ℕ)) → Spells (spelled fs) fs

-- frames that are spelled alike are the same
abbrev pub SpellingTells : Type 0
SpellingTells = (text : List ℕ) (fs gs : List (List ℕ)) → AllByRecursion IsFrame fs → AllByRecursion IsFrame gs → Spells text fs → Spells text gs → fs ≡ gs

-- a text that spells frames is read to its end, and gives these frames
abbrev pub SpelledIsRead : Type 0
SpelledIsRead = (text : List ℕ) (fs : List (List ℕ)) → AllByRecursion IsFrame fs → Spells text fs → (out : Frames) → Read text out → (frames_in out ≡ fs) × (out.end ≡ Ok tt)

-- a text that is read to its end spells what came out
abbrev pub ReadIsSpelled : Type 0
ReadIsSpelled = (text : List ℕ) (out : Frames) → Read text out → is_ok out.end ≡ true → Spells text (frames_in out)

-- two answers say the same
abbrev pub Same : Result Frames TextFault → Result Frames TextFault → Type 0
Same (Ok a) (Ok b) = (frames_in a ≡ frames_in b) × (a.end ≡ b.end)
Same (Ok a) (Err e) = ⊥
Same (Err d) (Ok b) = ⊥
Same (Err d) (Err e) = d ≡ e

-- where memory does not fail, a text has one answer
abbrev pub OneAnswer : Type 0
OneAnswer = (text : List ℕ) (q r : Result Frames TextFault) → Decoded text q → Decoded text r → (q ≢ Err Memory) → (r ≢ Err Memory) → Same q r
