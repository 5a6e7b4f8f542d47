-- Brackets that are there.
use Rattle.std.specs.Prelude.{ℕ, ◌<◌, List}
use Rattle.std.specs.List.{AllByRecursion}
use Rattle.lists.specs.Many.{row}
use Rattle.brackets.specs.declared.holding.Bracket.{Bracket}

-- each bracket of the lists is one of n back links and caps
abbrev pub Held : ℕ → List (List Bracket) → Type 0
Held n t = (j : ℕ) → AllByRecursion (λ b. b.item < n) (row t j)
