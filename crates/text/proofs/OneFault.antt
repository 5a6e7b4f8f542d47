-- A line has one fault at most, and none if it is good.
use Rattle.std.proofs.Common.{◌≡◌, ℕ, ◌+◌, ◌%◌, ◌<◌, List, [], length, Ok, Err, Result, sym, refl, ap, ◌∙◌, ⊎_elim, arith}
use Rattle.std.proofs.lemmas.Bool.{both_ways, cases_order}
use Rattle.text.specs.Decoded.{Stops}
use Rattle.text.specs.Line.{first_line, Digits, GoodLine, NoDigitAt, LineFault}
use Rattle.text.specs.declared.faults.TextFault.{TextFault}
use Rattle.text.specs.declared.faults.TextFault.TheVariants.{TooLong, NoLineFeed, EmptyLine, NoDigit, OddDigits, Memory}

-- where all are digits, none is not
clash : (bs : List ℕ) (k n : ℕ) → NoDigitAt bs k → k < n → Digits bs n → ⊥
clash bs k n d h all = both_ways _ d.other (all k h)

pub not_good : (n : ℕ) (bs : List ℕ) (e : TextFault) → LineFault n bs e → GoodLine bs → ⊥
not_good n bs TooLong f g = f
not_good n bs (NoLineFeed line) f g = f
not_good n bs (EmptyLine line) f g = omega (arith, g.some, ap length f.1)
not_good n bs (NoDigit line column) f g = clash bs f.1.0 (length bs) f.1.2 f.1.2.within g.digits
not_good n bs (OddDigits line) f g = omega (arith, g.even, f.2)
not_good n bs Memory f g = f

empty_only : (n : ℕ) (bs : List ℕ) (e : TextFault) → bs ≡ [] → LineFault n bs e → EmptyLine n ≡ e
empty_only n bs TooLong none f = absurd f
empty_only n bs (NoLineFeed line) none f = absurd f
empty_only n bs (EmptyLine line) none f = ap EmptyLine (sym f.0)
empty_only n bs (NoDigit line column) none f = absurd (omega (arith, f.1.2.within, ap length none))
empty_only n bs (OddDigits line) none f = absurd (omega (arith, f.2, ap length none))
empty_only n bs Memory none f = absurd f

same_place : (bs : List ℕ) (j k : ℕ) → NoDigitAt bs j → NoDigitAt bs k → j ≡ k
same_place bs j k dj dk =
    ⊎_elim (λ (e : j ≡ k). e) (⊎_elim
    (λ (h : j < k). absurd (clash bs j k dj h dk.before))
    (λ (h : k < j). absurd (clash bs k j dk h dj.before)))
    (cases_order j k)

digit_only : (n : ℕ) (bs : List ℕ) (k : ℕ) (e : TextFault) → NoDigitAt bs k → LineFault n bs e → NoDigit n (k + 1) ≡ e
digit_only n bs k TooLong d f = absurd f
digit_only n bs k (NoLineFeed line) d f = absurd f
digit_only n bs k (EmptyLine line) d f = absurd (omega (arith, d.within, ap length f.1))
digit_only n bs k (NoDigit line column) d f =
    let same = same_place bs k f.1.0 d f.1.2 in
    let at : k + 1 ≡ column = omega (arith, same, f.1.1) in
    ap (λ l. NoDigit l (k + 1)) (sym f.0) ∙ ap (λ m. NoDigit line m) at
digit_only n bs k (OddDigits line) d f = absurd (clash bs k (length bs) d d.within f.1)
digit_only n bs k Memory d f = absurd f

odd_only : (n : ℕ) (bs : List ℕ) (e : TextFault) → Digits bs (length bs) → length bs % 2 ≡ 1 → LineFault n bs e → OddDigits n ≡ e
odd_only n bs TooLong all odd f = absurd f
odd_only n bs (NoLineFeed line) all odd f = absurd f
odd_only n bs (EmptyLine line) all odd f = absurd (omega (arith, ap length f.1))
odd_only n bs (NoDigit line column) all odd f = absurd (clash bs f.1.0 (length bs) f.1.2 f.1.2.within all)
odd_only n bs (OddDigits line) all odd f = ap OddDigits (sym f.0)
odd_only n bs Memory all odd f = absurd f

one_fault : (n : ℕ) (bs : List ℕ) (d e : TextFault) → LineFault n bs d → LineFault n bs e → d ≡ e
one_fault n bs TooLong e f g = absurd f
one_fault n bs (NoLineFeed line) e f g = absurd f
one_fault n bs (EmptyLine line) e f g = ap EmptyLine f.0 ∙ empty_only n bs e f.1 g
one_fault n bs (NoDigit line column) e f g =
    ap (λ l. NoDigit l column) f.0 ∙ ap (λ c. NoDigit n c) f.1.1 ∙ digit_only n bs f.1.0 e f.1.2 g
one_fault n bs (OddDigits line) e f g = ap OddDigits f.0 ∙ odd_only n bs e f.1 f.2 g
one_fault n bs Memory e f g = absurd f

pub one_stop : (n : ℕ) (rest : List ℕ) (d e : Result (Unit {0}) TextFault) → Stops n rest d → Stops n rest e → d ≡ e
one_stop n rest (Ok x) (Ok y) s t = refl
one_stop n rest (Ok x) (Err e) s t = absurd (omega (arith, ap length s, t.0))
one_stop n rest (Err d) (Ok y) s t = absurd (omega (arith, ap length t, s.0))
one_stop n rest (Err d) (Err e) s t = ap Err (one_fault n (first_line rest) d e s.1 t.1)
