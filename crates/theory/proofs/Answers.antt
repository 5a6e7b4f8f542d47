-- The law leaves one answer to each call.
use Rattle.std.proofs.Common.{◌≡◌, ℕ, ◌⊎◌, List, Some, None, Option, sym, refl, ap, ◌∙◌, inl, inr, arith}
use Rattle.std.proofs.lemmas.Bool.{cases_order}
use Rattle.model.specs.Meaning.{Graph, Meaning}
use Rattle.model.specs.Walks.{Sound}
use Rattle.model.specs.Parts.{In, Proper, Holds, Apart}
use Rattle.model.specs.Listing.{Row, row, Listing, Innermost}
use Rattle.model.specs.History.{Answer, ok, refused, showing, finding, taking, giving, History, Right}
use Rattle.theory.specs.Calls.{OneAnswer}
use Rattle.theory.proofs.Insides.{step, nest}
use Rattle.theory.proofs.Counting.{exactly_all}
use Rattle.theory.proofs.Unique.{proper, both}

next_one :
    (g : Graph) (rows : List Row) (es : History) (r q : Option (ℕ × Row)) → Right g rows es (showing r) → Right g rows es (showing q) → r ≡ q
next_one g rows es None None x y = refl
next_one g rows es None (Some b) x y = absurd (omega (arith, x.0, y.0, y.1))
next_one g rows es (Some a) None x y = absurd (omega (arith, y.0, x.0, x.1))
next_one g rows es (Some a) (Some b) x y =
    let e : a.0 ≡ b.0 = x.0 ∙ sym y.0 in
    let f : a.1 ≡ b.1 = x.2 ∙ ap (row rows) e ∙ sym y.2 in
    λ i. Some (e i, f i)

take_one :
    (g : Graph) (rows : List Row) (es : History) (i h : ℕ) (r q : Answer (Unit {0})) → Right g rows es (taking i h r) → Right g rows es (taking i h q) → r ≡ q
take_one g rows es i h (ok u) (ok w) x y = refl
take_one g rows es i h (ok u) (refused n p) x (inl y) = absurd (omega (arith, x.0, y.0))
take_one g rows es i h (ok u) (refused n p) x (inr y) = absurd (x.1 p y.2)
take_one g rows es i h (refused n p) (ok u) (inl x) y = absurd (omega (arith, x.0, y.0))
take_one g rows es i h (refused n p) (ok u) (inr x) y = absurd (y.1 p x.2)
take_one g rows es i h (refused n p) (refused m q) x y = let first = cases_order p q in grind arith

give_one :
    (g : Graph) (rows : List Row) (es : History) (k : ℕ) (r q : Answer (Unit {0})) → Right g rows es (giving k r) → Right g rows es (giving k q) → r ≡ q
give_one g rows es k (ok u) (ok w) x y = refl
give_one g rows es k (ok u) (refused n p) x y = absurd y
give_one g rows es k (refused n p) r x y = absurd x

module _ (μ : Meaning) (sound : Sound μ.graph) (rows : List Row) (L : Listing μ rows) where
  innermost_one : (s i j : ℕ) → Innermost μ.graph rows s i → Innermost μ.graph rows s j → i ≡ j
  innermost_one s i j x y = pick (nest g sound (row rows i).part (row rows j).part pi pj)
    where
      g : Graph
      g = μ.graph

      pi : Proper μ.graph (row rows i).part
      pi = proper μ sound rows L i x.is_row

      pj : Proper μ.graph (row rows j).part
      pj = proper μ sound rows L j y.is_row

      back :
          (a b : ℕ) → Innermost μ.graph rows s a → Innermost μ.graph rows s b → Proper μ.graph (row rows a).part →
          Holds μ.graph (row rows a).part (row rows b).part → a ≡ b
      back a b u w pa h =
          both μ sound rows L a b u.is_row w.is_row h
          (λ t k. exactly_all μ.graph.steps (row rows b).inside (row rows a).inside (In μ.graph (row rows b).part) (In μ.graph (row rows a).part)
          (L.counts b w.is_row) (L.counts a u.is_row) (λ t _. h t) (u.fewest b w.is_row w.inside) t (step μ.graph sound (row rows a).part pa t k) k)

      pick :
          Apart μ.graph (row rows i).part (row rows j).part ⊎ (Holds μ.graph (row rows i).part (row rows j).part ⊎ Holds μ.graph (row rows j).part (row rows i).part) →
          i ≡ j
      pick (inl h) = absurd (h s x.inside y.inside)
      pick (inr (inl h)) = back i j x y pi h
      pick (inr (inr h)) = sym (back j i y x pj h)

  find_one : (es : History) (s : ℕ) (r q : Answer ℕ) → Right μ.graph rows es (finding s r) → Right μ.graph rows es (finding s q) → r ≡ q
  find_one es s (ok i) (ok j) x y = ap (λ (k : ℕ). ok k) (innermost_one s i j x.1 y.1)
  find_one es s (ok i) (refused n p) x y = absurd (omega (arith, x.0, y.0))
  find_one es s (refused n p) (ok i) x y = absurd (omega (arith, x.0, y.0))
  find_one es s (refused n p) (refused m q) x y = cc

pub one_answer : OneAnswer
one_answer = record { next = λ μ. next_one μ.graph; take = λ μ. take_one μ.graph; give = λ μ. give_one μ.graph; find = find_one }
