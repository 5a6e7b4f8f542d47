-- Brackets in a list, and the moves of lists.
use Rattle.std.specs.Prelude.{ℕ, ◌+◌, cond, List, [], ◌∷◌, ◌++◌, map, nat_lt}
use Rattle.lists.specs.Rows.{put}
use Rattle.brackets.specs.declared.levels.Level.{Level}
use Rattle.brackets.specs.declared.holding.Bracket.{Bracket}
use Rattle.brackets.specs.Levels.{has_cap, level, change, having_back_link, having_end}

abbrev pub items : List Bracket → List ℕ
items bs = map (λ b. b.item) bs

-- the list without the brackets at its top that end at v or below
abbrev pub live : ℕ → List Bracket → List Bracket
live v [] = []
live v (b ∷ bs) = cond (nat_lt b.to v) (b ∷ bs) (live v bs)

-- list j moved in front of list i
abbrev pub moved : (ℕ → List Bracket) → ℕ → ℕ → ℕ → List Bracket
moved rows i j = put (put rows j []) i (rows j ++ rows i)

-- what is left of the list of v, with its own brackets in front, and where it goes: in front of the parent's list
abbrev pub left : (ℕ → List Bracket) → ℕ → ℕ → List Bracket
left rows v own = live v (moved rows v own v)

abbrev pub passed : (ℕ → List Bracket) → ℕ → ℕ → ℕ → ℕ → List Bracket
passed rows v own parent = moved (put (moved rows v own) v (left rows v own)) parent v

-- a back link put to the own list of the number that it starts from, and counted at both its ends
abbrev pub with_start : ℕ → (ℕ → List Bracket) → ℕ → ℕ → ℕ → ℕ → List Bracket
with_start n rows link from to = put rows (n + from) (record { item = link; to = to } ∷ rows (n + from))

abbrev pub started : List Level → ℕ → ℕ → List Level
started ls from to = change (change ls from (λ l. having_back_link l to)) to having_end

-- a cap put to the own list of v, where v has one, and counted where it ends
abbrev pub with_cap : ℕ → ℕ → List Level → (ℕ → List Bracket) → ℕ → ℕ → List Bracket
with_cap n many ls rows v = cond (has_cap (level ls v) v) (with_start n rows (many + v) v (level ls v).hi2) rows

abbrev pub capped_levels : List Level → ℕ → List Level
capped_levels ls v = cond (has_cap (level ls v) v) (change ls (level ls v).hi2 having_end) ls
