-- Numbers below m that all differ are at most m.
use Rattle.std.proofs.Common.{◌≡◌, ℕ, zero, suc, ◌<◌, ◌≤◌, cond, eqb, arith}
use Rattle.std.proofs.lemmas.Bool.Decides.{nat_tests}

-- the last value takes the place of m
abbrev moved : ℕ → ℕ → (ℕ → ℕ) → ℕ → ℕ
moved m n f i = cond (eqb (f i) m) (f n) (f i)

module _ (m n : ℕ) (f : ℕ → ℕ) (below : (i : ℕ) → i < suc n → f i < suc m) (once : (i j : ℕ) → i < suc n → j < suc n → f i ≡ f j → i ≡ j) where
  moved_below : (i : ℕ) → i < n → moved m n f i < m
  moved_below i lt =
      let a = below i (omega arith) in
      let b = below n (omega arith) in
      let c = once i n (omega arith) (omega arith) in
      grind (arith, nat_tests)

  moved_once : (i j : ℕ) → i < n → j < n → moved m n f i ≡ moved m n f j → i ≡ j
  moved_once i j li lj s =
      let a = once i j (omega arith) (omega arith) in
      let b = once i n (omega arith) (omega arith) in
      let c = once n j (omega arith) (omega arith) in
      grind (arith, nat_tests)

pub pigeon : (m n : ℕ) (f : ℕ → ℕ) → ((i : ℕ) → i < n → f i < m) → ((i j : ℕ) → i < n → j < n → f i ≡ f j → i ≡ j) → n ≤ m
pigeon zero zero f below once = omega arith
pigeon zero (suc n) f below once = absurd (omega (arith, below 0 (omega arith)))
pigeon (suc m) zero f below once = omega arith
pigeon (suc m) (suc n) f below once = omega (arith, pigeon m n (moved m n f) (moved_below m n f below once) (moved_once m n f below once))
