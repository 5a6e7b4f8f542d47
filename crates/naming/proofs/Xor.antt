-- The laws of exclusive or.
use Rattle.std.proofs.Common.{◌≡◌, Bool, true, false, ◌||◌, arith}
use mathlib.Core.Bool.{xor}

pub xor_self : (a : Bool) → xor a a ≡ false
unfolding xor
xor_self a = grind arith

pub xor_comm : (a b : Bool) → xor a b ≡ xor b a
unfolding xor
xor_comm a b = grind arith

pub xor_cancel : (a b : Bool) → xor (xor a b) b ≡ a
unfolding xor
xor_cancel a b = grind arith

pub xor_via : (a b c : Bool) → xor a c ≡ xor (xor a b) (xor b c)
unfolding xor
xor_via a b c = grind arith

pub xor_mid : (a b c d : Bool) → xor (xor a b) (xor c d) ≡ xor (xor a c) (xor b d)
unfolding xor
xor_mid a b c d = grind arith

-- not both: xor is or
pub xor_or : (a b : Bool) → (a ≡ true → b ≡ true → ⊥) → xor a b ≡ (a || b)
unfolding xor
xor_or a b h = grind arith
