-- The computed shape obeys the laws.
use Rattle.std.proofs.Common.{◌≡◌, ℕ, zero, suc, ◌+◌, ◌-◌, ◌<◌, ◌≤◌, min, Bool, not, ◌&&◌, ◌||◌, eqb, List, [], ◌∷◌, ◌++◌, filter, sym, refl, ap, ◌∙◌, ap₂, inl, inr, arith}
use Rattle.std.proofs.lemmas.Bool.Decides.{nat_tests}
use Rattle.naming.proofs.Lists.{flat_same}
use Rattle.std.proofs.Math.Bool.{or-false}
use Rattle.std.proofs.lemmas.Bool.{cases_eq, lt-ltb}
use Rattle.naming.specs.Words.{Elem, Once, flat, low}
use Rattle.naming.specs.Names.{Treelike}
use Rattle.naming.specs.Built.{Base, sub_at, kids_from, kids_all, kids_of, hi_at, list_at, shape_of, Ready, Built}

low_same : (n : ℕ) (h g : ℕ → ℕ) (cs : List ℕ) → ((c : ℕ) → Elem c cs → h c ≡ g c) → low n h cs ≡ low n g cs
low_same n h g [] e = refl
low_same n h g (c ∷ cs) e = ap₂ min (e c (inl refl)) (low_same n h g cs (λ d m. e d (inr m)))

module _ (parent : ℕ → ℕ) where
  -- the children from k on
  pub kids_in : (m k p c : ℕ) → Elem c (kids_from parent m k p) → (k ≤ c) × (c < k + m) × (parent c ≡ p)
  unfolding kids_from
  kids_in zero k p c e = absurd e
  kids_in (suc m) k p c e = grind (arith, nat_tests, kids_in m (suc k) p c)

  pub in_kids : (m k p c : ℕ) → k ≤ c → c < k + m → parent c ≡ p → Elem c (kids_from parent m k p)
  unfolding kids_from
  in_kids zero k p c a b e = absurd (omega arith)
  in_kids (suc m) k p c a b e = grind (arith, nat_tests, in_kids m (suc k) p c, cases_eq c k)

  pub kids_once : (m k p : ℕ) → Once (kids_from parent m k p)
  unfolding kids_from
  kids_once zero k p = tt
  kids_once (suc m) k p = grind (arith, nat_tests, kids_once m (suc k) p, kids_in m (suc k) p k)

  -- no number up to p is a child of p
  pub kids_skip : (m k p : ℕ) → (parent k ≡ p → ⊥) → kids_from parent (suc m) k p ≡ kids_from parent m (suc k) p
  unfolding kids_from
  kids_skip m k p d = grind (arith, nat_tests)

module _ (n : ℕ) (P : ℕ → ℕ) (up : (k : ℕ) → 0 < k → k < n → P k < k) where
  done' : (m p : ℕ) → m < n → m ≤ p → kids_from P (n - suc m) (suc m) p ≡ kids_all n P p
  done' zero p l h = refl
  done' (suc m) p l h =
      let a : n - suc m ≡ suc (n - suc (suc m)) = omega arith in
      let u = up (suc m) (omega arith) l in
      sym (kids_skip P (n - suc (suc m)) (suc m) p (λ e. absurd (omega arith))) ∙
      ap (λ (i : ℕ). kids_from P i (suc m) p) (sym a) ∙ done' m p (omega arith) (omega arith)

  pub done : (k p : ℕ) → 0 < k → k ≤ n → k ≤ suc p → kids_from P (n - k) k p ≡ kids_all n P p
  done zero p z l h = absurd (omega arith)
  done (suc k) p z l h = done' k p (omega arith) (omega arith)

  pub kid : (k c : ℕ) → Elem c (kids_all n P k) → (0 < c) × (c < n) × (P c ≡ k)
  kid k c m = let r = kids_in P (n - 1) 1 k c m in (omega (arith, r.0), omega (arith, r.0, r.1), r.2)

  pub kid_after : (k c : ℕ) → Elem c (kids_all n P k) → (k < c) × (c < n)
  kid_after k c m = let r = kid k c m in let u = up c r.0 r.1 in (omega (arith, r.2), r.1)

  module _ (hi0 : ℕ → ℕ) where
    abbrev H : ℕ → ℕ → ℕ
    H m k = hi_at n P hi0 m k

    hi_fuel : (m i k : ℕ) → n ≤ k + m → n ≤ k + i → k < n → H m k ≡ H i k
    unfolding hi_at
    hi_fuel zero i k a b l = absurd (omega arith)
    hi_fuel (suc m) zero k a b l = absurd (omega arith)
    hi_fuel (suc m) (suc i) k a b l =
        ap (min (hi0 k))
        (low_same n (H m) (H i) (kids_all n P k)
        (λ c e. let r = kid_after k c e in hi_fuel m i c (omega (arith, r.0)) (omega (arith, r.0)) r.1))

    pub hi_is : (k : ℕ) → k < n → hi_at n P hi0 n k ≡ min (hi0 k) (low n (hi_at n P hi0 n) (kids_all n P k))
    unfolding hi_at
    hi_is k l = hi_fuel n (suc n) k (omega arith) (omega arith) l

module _ {X : Type 0} (B : Base X) (ready : Ready B) where
  abbrev P : ℕ → ℕ
  P = B.parent

  -- more levels change nothing
  sub_fuel : (m i t v : ℕ) → v < m → v < i → v < B.size → sub_at P m t v ≡ sub_at P i t v
  unfolding sub_at
  sub_fuel zero i t v a b l = absurd (omega arith)
  sub_fuel (suc m) zero t v a b l = absurd (omega arith)
  sub_fuel (suc m) (suc i) t v a b l = let u = ready.up v in grind (arith, nat_tests, sub_fuel m i t (P v))

  sub_zero : (t : ℕ) → sub_at P 1 t 0 ≡ eqb 0 t
  unfolding sub_at
  sub_zero t = or-false (eqb 0 t)

  sub_more : (t v : ℕ) → 0 < v → v < B.size → sub_at P (suc v) t v ≡ (eqb v t || sub_at P (suc (P v)) t (P v))
  unfolding sub_at
  sub_more t v h l =
      let u = ready.up v h l in
      ap (λ (w : Bool). eqb v t || (w && sub_at P v t (P v))) (lt-ltb 0 v h) ∙
      ap (λ (w : Bool). eqb v t || w) (sub_fuel v (suc (P v)) t (P v) u (omega arith) (omega arith))

  list_fuel : (m i k : ℕ) → B.size ≤ k + m → B.size ≤ k + i → k < B.size → list_at B m k ≡ list_at B i k
  unfolding list_at
  list_fuel zero i k a b l = absurd (omega arith)
  list_fuel (suc m) zero k a b l = absurd (omega arith)
  list_fuel (suc m) (suc i) k a b l =
      ap (λ r. B.own k ++ filter (λ x. not (eqb (B.dst x) k)) r)
      (flat_same (list_at B m) (list_at B i) (kids_of B k)
      (λ c e. let r = kid_after B.size P ready.up k c e in list_fuel m i c (omega (arith, r.0)) (omega (arith, r.0)) r.1))

  list_is : (k : ℕ) → k < B.size → list_at B B.size k ≡ B.own k ++ filter (λ x. not (eqb (B.dst x) k)) (flat (list_at B B.size) (kids_of B k))
  unfolding list_at
  list_is k l = list_fuel B.size (suc B.size) k (omega arith) (omega arith) l

  tree : Treelike (shape_of B)
  tree =
      record {
        up = ready.up;
        sub_zero = sub_zero;
        sub_more = sub_more;
        kid = λ k c _ m. kid B.size P ready.up k c m;
        kid_of = λ c h l. in_kids P (B.size - 1) 1 (P c) c (omega arith) (omega arith) refl;
        kids_once = λ k _. kids_once P (B.size - 1) 1 k;
      }

  pub all_built : Built X B
  all_built =
      record {
        by_method =
            record {
              tree = tree;
              own_src = ready.own_src;
              own_once = ready.own_once;
              link_up = ready.link_up;
              hi0_low = ready.hi0_low;
              hi0_some = ready.hi0_some;
              hi_is = hi_is B.size P ready.up B.hi0;
              cap_is = ready.cap_is;
              cap_some = ready.cap_some;
              list_is = list_is;
            };
        done = done B.size P ready.up;
      }

pub built : {X : Type 0} (B : Base X) → Ready B → Built X B
built B ready = all_built B ready
