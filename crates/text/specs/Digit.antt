-- Upper-case digits of base 16: the value of a digit, and the digit of a value.
use Rattle.std.specs.Prelude.{ℕ, ◌+◌, ◌-◌, Bool, cond, ◌&&◌, Some, None, Option, nat_le, nat_lt}

abbrev pub between : ℕ → ℕ → ℕ → Bool
between a b n = nat_le a n && nat_le n b

-- the value of the digits 0 to 9 and A to F; no other byte is a digit
abbrev pub digit_of : ℕ → Option ℕ
digit_of b = cond (between 48 57 b) (Some (b - 48)) (cond (between 65 70 b) (Some (b - 55)) None)

-- the same as an entry of a table, with 255 for every byte that is no digit
abbrev pub entry_of : ℕ → ℕ
entry_of b = cond (between 48 57 b) (b - 48) (cond (between 65 70 b) (b - 55) 255)

-- the digit of a value below 16
abbrev pub hex : ℕ → ℕ
hex n = cond (nat_lt n 10) (48 + n) (55 + n)
