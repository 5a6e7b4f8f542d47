-- The digits of a line, taken two by two.
use Rattle.std.proofs.Common.{◌≡◌, ℕ, ◌+◌, ◌%◌, ◌<◌, true, List, [], ◌∷◌, ◌++◌, length, get_or, is_some, sym, ap, ◌∙◌, append-nil, arith, length-append}
use Rattle.std.proofs.lemmas.List.{get_or-append-add, get_or_append_left}
use Rattle.text.specs.Digit.{digit_of}
use Rattle.text.specs.Line.{Digits}
use Rattle.text.specs.Spelling.{digits_of}
use Rattle.text.proofs.Spelled.{length-digits_of}

-- the digits xs, with which the rest of a line begins, are digits as all of the line
pub left_digit : (front rest xs more ds : List ℕ) (k : ℕ) → front ++ rest ≡ ds → rest ≡ xs ++ more → Digits ds (length ds) → k < length xs → is_some (digit_of (get_or xs k 0)) ≡ true
left_digit front rest xs more ds k e cut digits h =
    let same : get_or ds (length front + k) 0 ≡ get_or xs k 0 =
    ap (λ l. get_or l (length front + k) 0) (sym e) ∙ get_or-append-add front rest k 0 ∙ ap (λ l. get_or l k 0) cut ∙ get_or_append_left xs more 0 k h in
    ap (λ b. is_some (digit_of b)) (sym same) ∙ digits (length front + k) (omega (arith, ap length e, ap length cut, length-append front rest, length-append xs more))

-- of an even number of digits, no single one is left after the pairs
pub none_left : (bytes rest ds : List ℕ) → digits_of bytes ++ rest ≡ ds → length ds % 2 ≡ 0 → length rest < 2 → digits_of bytes ≡ ds
none_left bytes [] ds e even h = sym (append-nil (digits_of bytes)) ∙ e
none_left bytes (x ∷ rest) ds e even h = absurd (omega (arith, ap length e, length-append (digits_of bytes) (x ∷ rest), length-digits_of bytes))
