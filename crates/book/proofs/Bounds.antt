-- What the rows ask of the search and of the classes.
use Rattle.std.proofs.Common.{◌≡◌, ℕ, ◌≤◌, List, map, length, subst}
use Rattle.model.specs.declared.numbers.Ends.{Ends}
use Rattle.model.specs.declared.numbers.LinkNo.{LinkNo}
use Rattle.model.specs.Meaning.{EndsBelow, pair_of}
use Rattle.classes.proofs.Pairs.{ends_at}
use Rattle.search.specs.Searched.{InOrder, link_at}
use Rattle.rows.specs.Bounds.{StepsBelow}
use Rattle.theory.proofs.Pigeon.{pigeon}

pub steps_below : (n m : ℕ) (xs : List Ends) → n ≡ m → EndsBelow n (map pair_of xs) → StepsBelow m xs
steps_below n m xs e h = subst (λ (k : ℕ). StepsBelow k xs) e (ends_at n xs h)

-- an order of search has no more links than there are
pub order_few : (G : List (ℕ × ℕ)) (start : ℕ) (order : List LinkNo) → InOrder G start order → length order ≤ length G
order_few G start order o = pigeon (length G) (length order) (link_at order) o.below o.once
