-- What is known of a number, step by step.
use Rattle.std.specs.Prelude.{ℕ, ◌+◌, ◌^◌, ◌<◌, min, max, Bool, cond, ◌&&◌, List, length, Some, None, Option, nat_lt, slice_index_or, slice_set}
use Rattle.brackets.specs.declared.levels.Level.{Level}

abbrev pub bare : ℕ → Level
bare n = record { hi0 = n; hi1 = n; hi2 = n; len = 0; ends = 0 }

abbrev pub having_back_link : Level → ℕ → Level
having_back_link l to = record { hi0 = min to l.hi0; hi1 = l.hi1; hi2 = l.hi2; len = l.len; ends = l.ends }

abbrev pub having_end : Level → Level
having_end l = record { hi0 = l.hi0; hi1 = l.hi1; hi2 = l.hi2; len = l.len; ends = l.ends + 1 }

abbrev pub having_child : Level → ℕ → ℕ → Level
having_child l hi len =
    record { hi0 = l.hi0; hi1 = min hi l.hi1; hi2 = min (max hi l.hi1) l.hi2; len = len + l.len; ends = l.ends }

-- whether a cap is made from v, and where it ends
abbrev pub has_cap : Level → ℕ → Bool
has_cap l v = nat_lt l.hi2 l.hi0 && nat_lt l.hi2 v

abbrev pub cap_by : Level → ℕ → Option ℕ
cap_by l v = cond (has_cap l v) (Some l.hi2) None

-- the level of number k
abbrev pub level : List Level → ℕ → Level
level ls k = slice_index_or ls k (bare 0)

-- the levels, with that of k changed
abbrev pub change : List Level → ℕ → (Level → Level) → List Level
change ls k f = slice_set ls k (f (level ls k))

-- one more bracket can be counted at each number
abbrev pub Room : List Level → Type 0
Room ls = (k : ℕ) → k < length ls → (level ls k).ends + 1 < 2 ^ 32
