-- How long lists can get: no item stands twice, and there are so many items.
use Rattle.std.proofs.Common.{◌≡◌, ℕ, zero, suc, ◌+◌, ◌-◌, ◌<◌, ◌≤◌, List, length, refl, ap, ◌∙◌, inl, inr, arith}
use Rattle.naming.specs.Words.{Elem, Once, flat}
use Rattle.naming.specs.Names.{Shape}
use Rattle.naming.specs.Built.{shape_of, kids_of}
use Rattle.naming.specs.Searched.{Searched, Upward, base_of}
use Rattle.naming.specs.Turns.{numbers, sofar, Bounded, ListsBounded}
use Rattle.naming.proofs.Lists.{elem_flat, once_flat, once_length}
use Rattle.naming.proofs.Joined.{list_over, list_once, apart}
use Rattle.naming.proofs.Built.{kids_in, in_kids, kids_once}
use Rattle.naming.proofs.Searched.{Own, own_cases, law}
use Rattle.naming.proofs.Turns.{in_numbers, numbers_none, numbers_more}

length_numbers : (m k : ℕ) → length (numbers m k) ≡ m
length_numbers zero k = ap length (numbers_none 0 k refl)
length_numbers (suc m) k = ap length (numbers_more m k) ∙ ap suc (length_numbers m (suc k))

-- numbers below m that all differ
pub once_below : (xs : List ℕ) (m : ℕ) → Once xs → ((x : ℕ) → Elem x xs → x < m) → length xs ≤ m
once_below xs m o h =
    let r = once_length xs (numbers m 0) o (λ x e. in_numbers m 0 x (omega arith) (omega (arith, h x e))) in
    omega (arith, length_numbers m 0)

module _ (P : Searched) (good : Upward P) where
  abbrev S : Shape ℕ
  S = shape_of (base_of P)

  item_below : (k x : ℕ) → k < P.size → Elem x (S.list k) → x < P.many + P.size
  item_below k x l m =
      let o = list_over S (law P good) k x l m in
      pick o.within (own_cases P good (S.src x) x o.item)
    where
      pick : S.src x < P.size → Own P good (S.src x) x → x < P.many + P.size
      pick w (inl e) = omega (arith, e.0)
      pick w (inr q) = omega (arith, (good.link (S.src x) x w q).0)

  kid : (k p c : ℕ) → 0 < k → k ≤ P.size → p < P.size → Elem c (sofar (base_of P) k p) → (c < P.size) × Elem c (kids_of (base_of P) p)
  kid k p c z l lp m =
      let r = kids_in P.parent (P.size - k) k p c m in
      let lc : c < P.size = omega (arith, r.1) in
      (lc, in_kids P.parent (P.size - 1) 1 p c (omega (arith, r.0)) (omega arith) r.2)

  pub bounded : Bounded P
  bounded =
      record {
        list = λ k l. once_below (S.list k) (P.many + P.size) (list_once S (law P good) k l) (λ x. item_below k x l);
        kids = λ k p z l lp.
            once_below (flat S.list (sofar (base_of P) k p)) (P.many + P.size)
            (once_flat S.list (sofar (base_of P) k p) (kids_once P.parent (P.size - k) k p) (λ c m. list_once S (law P good) c (kid k p c z l lp m).0)
            (λ c d x mc md. apart S (law P good) p c d x lp (kid k p c z l lp mc).1 (kid k p d z l lp md).1))
            (λ x m. let r = elem_flat S.list x (sofar (base_of P) k p) m in item_below r.0 x (kid k p r.0 z l lp r.1).0 r.2);
      }

pub lists_bounded : ListsBounded
lists_bounded P good = bounded P good
