-- The lines of a text, and what may be wrong with one.
use Rattle.std.specs.Prelude.{◌≡◌, ℕ, ◌+◌, ◌%◌, ◌<◌, true, false, cond, List, [], ◌∷◌, length, is_some, ◌==◌, slice_index}
use Rattle.text.specs.Digit.{digit_of}
use Rattle.text.specs.declared.faults.TextFault.{TextFault}
use Rattle.text.specs.declared.faults.TextFault.TheVariants.{TooLong, NoLineFeed, EmptyLine, NoDigit, OddDigits, Memory}

-- the bytes before the first line feed
abbrev pub first_line : List ℕ → List ℕ
first_line [] = []
first_line (b ∷ bs) = cond (b == 10) [] (b ∷ first_line bs)

-- each of the first n bytes is a digit
abbrev pub Digits : List ℕ → ℕ → Type 0
Digits bs n = (k : ℕ) → k < n → is_some (digit_of (slice_index bs k)) ≡ true

-- a line that spells a frame: some digits, an even number of them, and nothing else
pub record GoodLine (bs : List ℕ) : Type 0 where
  pub some : 0 < length bs
  pub digits : Digits bs (length bs)
  pub even : length bs % 2 ≡ 0

-- the byte at this place, counted from 0, is no digit, and each before it is one
pub record NoDigitAt (bs : List ℕ) (k : ℕ) : Type 0 where
  pub within : k < length bs
  pub other : is_some (digit_of (slice_index bs k)) ≡ false
  pub before : Digits bs k

-- what is wrong with the line of number n that has these bytes; columns count from 1
abbrev pub LineFault : ℕ → List ℕ → TextFault → Type 0
LineFault n bs TooLong = ⊥
LineFault n bs (NoLineFeed line) = ⊥
LineFault n bs (EmptyLine line) = (line ≡ n) × (bs ≡ [])
LineFault n bs (NoDigit line column) = (line ≡ n) × ((k : ℕ) × (column ≡ k + 1) × NoDigitAt bs k)
LineFault n bs (OddDigits line) = (line ≡ n) × Digits bs (length bs) × (length bs % 2 ≡ 1)
LineFault n bs Memory = ⊥
