use Rattle.std.proofs.Common.{◌≡◌, ℕ, zero, suc, ◌+◌, ◌/◌, ◌%◌, ◌^◌, ◌<◌, List, [], ◌∷◌, ◌++◌, decimal, refl, sym, append_assoc, append-nil, arith}
use Rattle.std.proofs.lemmas.Fmt.{decimal_digit, decimal_step}
use Rattle.lines.proofs.line.Line.digits.Goals as goal

-- the digits of a number, and none for nought
abbrev leading : ℕ → List ℕ
leading zero = []
leading (suc n) = decimal (suc n)

last : (n : ℕ) → n < 2 ^ 16 → decimal n ≡ leading (n / 10) ++ (48 + n % 10) ∷ []
last n small = by_tenth (n / 10) refl
  where
    by_tenth : (m : ℕ) → n / 10 ≡ m → decimal n ≡ leading m ++ (48 + n % 10) ∷ []
    by_tenth zero e = let h : n % 10 ≡ n = omega (arith, e) in rw h (decimal_digit n (omega (arith, e)))
    by_tenth (suc m) e = rw (← e) (decimal_step n (omega (arith, e)) (omega arith))

more : (s a b : List ℕ) (n m : ℕ) → n < 2 ^ 16 → m ≡ n / 10 → a ≡ s ++ leading m → (n ≡ 0 → b ≡ a) → (0 < n → b ≡ a ++ (48 + n % 10) ∷ []) → b ≡ s ++ leading n
more s a b zero m small tenth before nought digit = let z : m ≡ 0 = omega (arith, tenth) in rw (nought refl, before, z) refl
more s a b (suc n) m small tenth before nought digit = rw (digit (omega arith), before, last (suc n) small, tenth, append_assoc) refl

pub returns-clause-written : goal.returns-clause-written
returns-clause-written c =
    let n = c.args.n in
    let s = c.args.self.now in
    let fits : n < 2 ^ 16 = omega (arith, c.ranges.n.fits) in
    let one = more s s c.leading_digit.new.self (n / 10000) 0 (omega (arith, fits)) (omega (arith, fits)) (sym (append-nil s)) c.leading_digit.ensures.nought c.leading_digit.ensures.digit in
    let two = more s _ c.leading_digit-2.new.self (n / 1000) (n / 10000) (omega (arith, fits)) (omega arith) one c.leading_digit-2.ensures.nought c.leading_digit-2.ensures.digit in
    let three = more s _ c.leading_digit-3.new.self (n / 100) (n / 1000) (omega (arith, fits)) (omega arith) two c.leading_digit-3.ensures.nought c.leading_digit-3.ensures.digit in
    let four = more s _ c.leading_digit-4.new.self (n / 10) (n / 100) (omega (arith, fits)) (omega arith) three c.leading_digit-4.ensures.nought c.leading_digit-4.ensures.digit in
    rw (c.last_digit.ensures, four, last n fits, append_assoc) refl
