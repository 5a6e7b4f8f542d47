-- Numbers that name something that is there.
use Rattle.std.specs.Prelude.{ℕ, ◌<◌, List, Option}
use Rattle.model.specs.declared.numbers.LinkNo.{LinkNo}
use Rattle.model.specs.declared.numbers.Ends.{Ends}
use Rattle.model.specs.Meaning.{ends_from}
use Rattle.theory.specs.Each.{Each, EachSome}

abbrev pub Below : ℕ → LinkNo → Type 0
Below m l = l.0 < m

-- each of the link numbers is below m
abbrev pub LinksBelow : ℕ → List LinkNo → Type 0
LinksBelow m = Each (Below m) (record { 0 = 0 })

-- each link number that is there is below m
abbrev pub SomeBelow : ℕ → List (Option LinkNo) → Type 0
SomeBelow m = EachSome (Below m)

-- both ends of each link are below n
abbrev pub EndsIn : ℕ → Ends → Type 0
EndsIn n e = (e.tail.0 < n) × (e.head.0 < n)

abbrev pub StepsBelow : ℕ → List Ends → Type 0
StepsBelow n = Each (EndsIn n) (ends_from (0, 0))

-- each number is below n
abbrev pub AllBelow : ℕ → List ℕ → Type 0
AllBelow n = Each (λ k. k < n) 0
