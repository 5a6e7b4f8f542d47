-- The laws of spelling and reading.
use Rattle.std.proofs.Common.{◌≡◌, ℕ, ◌+◌, ◌<◌, ◌≤◌, true, List, [], ◌++◌, length, is_ok, Ok, Err, vec_items, Result, sym, refl, ap, ◌∙◌, subst, inl, inr, ⊎_elim, append-nil, arith}
use Rattle.std.proofs.lemmas.List.{length-map}
use Rattle.text.specs.Decoded.{bytes_of, line_feeds, frames_in, Ended, Stops, WholeFault, Read, Decoded}
use Rattle.text.specs.Laws.{SpellingServes, SpellingTells, SpelledIsRead, ReadIsSpelled, OneAnswer}
use Rattle.text.specs.Line.{first_line}
use Rattle.text.specs.Spelling.{spelled, Spells}
use Rattle.text.specs.declared.decoding.Frames.{Frames}
use Rattle.text.specs.declared.faults.TextFault.{TextFault}
use Rattle.text.specs.declared.faults.TextFault.TheVariants.{TooLong, NoLineFeed, EmptyLine, NoDigit, OddDigits, Memory}
use Rattle.text.proofs.OneFault.{not_good, one_stop}
use Rattle.text.proofs.Spelled.{Stuck, one_way}

pub spelling_serves : SpellingServes
unfolding Spells
spelling_serves fs = refl

pub spelling_tells : SpellingTells
unfolding Spells
spelling_tells text fs gs ff fg e h = (one_way fs gs [] [] ff fg (inl refl) (inl refl) (append-nil (spelled fs) ∙ sym e ∙ h ∙ sym (append-nil (spelled gs)))).0

begins : (text : List ℕ) (out : Frames) (r : Read text out) → text ≡ spelled (frames_in out) ++ r.rest
unfolding Spells
begins text out r = r.parts ∙ ap (λ xs. xs ++ r.rest) r.spells

stuck : (n : ℕ) (rest : List ℕ) (end : Result (Unit {0}) TextFault) → Stops n rest end → Stuck rest
stuck n rest (Ok x) s = inl s
stuck n rest (Err e) s = inr (not_good n (first_line rest) e s.1)

pub spelled_is_read : SpelledIsRead
unfolding Spells
spelled_is_read text fs ff spells out r =
    let n = length (vec_items out.frames) + 1 in
    let w = one_way (frames_in out) fs r.rest [] r.frames ff (stuck n r.rest out.end r.stops) (inl refl) (sym (begins text out r) ∙ spells ∙ sym (append-nil (spelled fs))) in
    (w.0, one_stop n r.rest out.end (Ok tt) r.stops w.1)

none_left : (n : ℕ) (rest : List ℕ) (end : Result (Unit {0}) TextFault) → Stops n rest end → is_ok end ≡ true → rest ≡ []
none_left n rest (Ok x) s ok = s
none_left n rest (Err e) s ok = let z : ◌≡◌ {A = ℕ} 0 1 = cc in absurd (omega arith)

pub read_is_spelled : ReadIsSpelled
unfolding Spells
read_is_spelled text out r ok =
    begins text out r ∙ ap (λ xs. spelled (frames_in out) ++ xs) (none_left (length (vec_items out.frames) + 1) r.rest out.end r.stops ok) ∙ append-nil (spelled (frames_in out))

one_reading : (text : List ℕ) (a b : Frames) → Read text a → Read text b → (frames_in a ≡ frames_in b) × (a.end ≡ b.end)
one_reading text a b ra rb =
    let m = length (vec_items a.frames) + 1 in
    let n = length (vec_items b.frames) + 1 in
    let w = one_way (frames_in a) (frames_in b) ra.rest rb.rest ra.frames rb.frames (stuck m ra.rest a.end ra.stops) (stuck n rb.rest b.end rb.stops) (sym (begins text a ra) ∙ begins text b rb) in
    let same : n ≡ m = omega (arith, ap length w.0, length-map (vec_items a.frames) bytes_of, length-map (vec_items b.frames) bytes_of) in
    let s = subst (λ (k : ℕ). Stops k rb.rest b.end) same rb.stops in
    (w.0, one_stop m ra.rest a.end b.end ra.stops (subst (λ (xs : List ℕ). Stops m xs b.end) (sym w.1) s))

not_whole : (text : List ℕ) (e : TextFault) → WholeFault text e → length text ≤ 65535 → Ended text → ⊥
not_whole text TooLong f short ended = omega arith
not_whole text (NoLineFeed line) f short ended = f.2 (ended f.1)
not_whole text (EmptyLine line) f short ended = f
not_whole text (NoDigit line column) f short ended = f
not_whole text (OddDigits line) f short ended = f
not_whole text Memory f short ended = f

long_only : (text : List ℕ) (e : TextFault) → 65535 < length text → WholeFault text e → TooLong ≡ e
long_only text TooLong h f = refl
long_only text (NoLineFeed line) h f = absurd (omega (arith, f.0))
long_only text (EmptyLine line) h f = absurd f
long_only text (NoDigit line column) h f = absurd f
long_only text (OddDigits line) h f = absurd f
long_only text Memory h f = absurd f

open_only : (text : List ℕ) (e : TextFault) → length text ≤ 65535 → WholeFault text e → NoLineFeed (line_feeds text + 1) ≡ e
open_only text TooLong h f = absurd (omega arith)
open_only text (NoLineFeed line) h f = ap NoLineFeed (sym f.3)
open_only text (EmptyLine line) h f = absurd f
open_only text (NoDigit line column) h f = absurd f
open_only text (OddDigits line) h f = absurd f
open_only text Memory h f = absurd f

one_whole : (text : List ℕ) (d e : TextFault) → WholeFault text d → WholeFault text e → d ≡ e
one_whole text TooLong e f g = long_only text e f g
one_whole text (NoLineFeed line) e f g = ap NoLineFeed f.3 ∙ open_only text e f.0 g
one_whole text (EmptyLine line) e f g = absurd f
one_whole text (NoDigit line column) e f g = absurd f
one_whole text (OddDigits line) e f g = absurd f
one_whole text Memory e f g = absurd f

-- where memory did not fail, the text as a whole is at fault
whole : (text : List ℕ) (e : TextFault) → Decoded text (Err e) → (◌≡◌ {A = Result Frames TextFault} (Err e) (Err Memory) → ⊥) → WholeFault text e
whole text e f some = ⊎_elim (λ (w : WholeFault text e). w) (λ (m : (e ≡ Memory) × (length text ≤ 65535) × Ended text). absurd (some (ap Err m.0))) f

pub one_answer : OneAnswer
one_answer text (Ok a) (Ok b) f g nq nr = one_reading text a b f g
one_answer text (Ok a) (Err e) f g nq nr = not_whole text e (whole text e g nr) f.short f.ended
one_answer text (Err d) (Ok b) f g nq nr = not_whole text d (whole text d f nq) g.short g.ended
one_answer text (Err d) (Err e) f g nq nr = one_whole text d e (whole text d f nq) (whole text e g nr)
