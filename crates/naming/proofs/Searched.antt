-- The computed items obey the laws.
use Rattle.std.proofs.Common.{◌≡◌, ℕ, suc, ◌+◌, ◌-◌, ◌<◌, ◌≤◌, true, false, ltb, ◌⊎◌, ◌∷◌, sym, refl, ap, ◌∙◌, subst, inl, arith}
use Rattle.std.proofs.lemmas.Bool.Decides.{nat_tests}
use Rattle.std.proofs.lemmas.Bool.{cases_Bool, and_parts, and_from, not_from_true, ltb-true, lt-ltb, le-ltb, cond-true, cond-false}
use Rattle.naming.specs.Words.{Elem, Once}
use Rattle.naming.specs.Names.{ByMethod, hi2}
use Rattle.naming.specs.Built.{Base, sub_at, shape_of, Ready}
use Rattle.naming.specs.Searched.{Searched, low_own, low_second, capped, base_of, Upward, SearchedStands}
use Rattle.naming.proofs.Lowest.{low_le, low_some}
use Rattle.naming.proofs.Built.{built}
use Rattle.naming.proofs.Named.{named}
use Rattle.naming.proofs.Carried.{carried}

module _ (P : Searched) (good : Upward P) where
  abbrev B : Base ℕ
  B = base_of P

  abbrev pub Own : ℕ → ℕ → Type 0
  Own k x = ((x ≡ P.many + k) × (capped P k ≡ true)) ⊎ Elem x (P.links k)

  pub own_cases : (k x : ℕ) → Elem x (B.own k) → Own k x
  own_cases k x m = grind (arith, cases_Bool (capped P k))

  pub own_link : (k x : ℕ) → Elem x (P.links k) → Elem x (B.own k)
  own_link k x m = grind (arith, cases_Bool (capped P k))

  -- the number of a cap
  not_link : (x k : ℕ) → x ≡ P.many + k → (ltb x P.many ≡ false) × (x - P.many ≡ k)
  not_link x k e = (le-ltb x P.many (omega arith), omega arith)

  cap_src : (x k : ℕ) → x ≡ P.many + k → B.src x ≡ k
  cap_src x k e = let n = not_link x k e in cond-false (ltb x P.many) (P.from x) (x - P.many) n.0 ∙ n.1

  pub cap_dst : (x k : ℕ) → x ≡ P.many + k → B.dst x ≡ low_second P k
  cap_dst x k e =
      let n = not_link x k e in
      cond-false (ltb x P.many) (P.to x) (low_second P (x - P.many)) n.0 ∙ ap (low_second P) n.1

  pub link_src : (x : ℕ) → x < P.many → B.src x ≡ P.from x
  link_src x h = cond-true (ltb x P.many) (P.from x) (x - P.many) (lt-ltb x P.many h)

  pub link_dst : (x : ℕ) → x < P.many → B.dst x ≡ P.to x
  link_dst x h = cond-true (ltb x P.many) (P.to x) (low_second P (x - P.many)) (lt-ltb x P.many h)

  -- an own item is a back link, or else a cap
  pub link_of : (k x : ℕ) → Elem x (B.own k) → B.cap x ≡ false → Elem x (P.links k)
  link_of k x m e = grind (arith, nat_tests, own_cases k x m)

  cap_of : (k x : ℕ) → k < P.size → Elem x (B.own k) → B.cap x ≡ true → (x ≡ P.many + k) × (capped P k ≡ true)
  cap_of k x l m e = let g = good.link k x l in grind (arith, nat_tests, own_cases k x m)

  own_src : (k x : ℕ) → k < P.size → Elem x (B.own k) → B.src x ≡ k
  own_src k x l m =
      let g = good.link k x l in
      let c = cap_src x k in
      let s = link_src x in
      grind (arith, own_cases k x m)

  own_once : (k : ℕ) → k < P.size → Once (B.own k)
  own_once k l =
      let g = good.link k (P.many + k) l in
      let o = good.once k l in
      grind (arith, cases_Bool (capped P k))

  link_up : (k x : ℕ) → k < P.size → Elem x (B.own k) → B.cap x ≡ false → ((shape_of B).sub (B.dst x) k ≡ true) × (B.dst x < k)
  link_up k x l m e =
      let g = good.link k x l (link_of k x m e) in
      let d = link_dst x g.0 in
      (ap (λ (i : ℕ). sub_at P.parent (suc k) i k) d ∙ g.3, omega (arith, g.2, d))

  hi0_low : (k x : ℕ) → k < P.size → Elem x (B.own k) → B.cap x ≡ false → low_own P k ≤ B.dst x
  hi0_low k x l m e =
      let q = link_of k x m e in
      let d = link_dst x (good.link k x l q).0 in
      let r = low_le P.size P.to x (P.links k) q in
      omega (arith, d)

  hi0_some : (k : ℕ) → k < P.size → low_own P k < P.size → (x : ℕ) × Elem x (B.own k) × (B.cap x ≡ false) × (B.dst x ≡ low_own P k)
  hi0_some k l h =
      let r = low_some P.size P.to (P.links k) h in
      let g = good.link k r.0 l r.1 in
      (r.0, own_link k r.0 r.1, not_from_true (ltb r.0 P.many) (lt-ltb r.0 P.many g.0), link_dst r.0 g.0 ∙ r.2)

  cap_is : (k x : ℕ) → k < P.size → Elem x (B.own k) → B.cap x ≡ true → (hi2 (shape_of B) k < k) × (B.dst x ≡ hi2 (shape_of B) k)
  cap_is k x l m e =
      let q = cap_of k x l m e in
      let t = and_parts (ltb (low_second P k) (low_own P k)) (ltb (low_second P k) k) q.1 in
      (ltb-true (low_second P k) k t.1, cap_dst x k q.0)

  cap_some :
      (k : ℕ) → k < P.size → hi2 (shape_of B) k < low_own P k → hi2 (shape_of B) k < k → (x : ℕ) × Elem x (B.own k) × (B.dst x ≡ hi2 (shape_of B) k)
  cap_some k l a b =
      let t = and_from (ltb (low_second P k) (low_own P k)) (ltb (low_second P k) k) (lt-ltb (low_second P k) (low_own P k) a) (lt-ltb (low_second P k) k b) in
      (P.many + k, subst (λ l. Elem (P.many + k) l) (sym (cond-true (capped P k) ((P.many + k) ∷ P.links k) (P.links k) t)) (inl refl), cap_dst (P.many + k) k refl)

  pub ready : Ready B
  ready =
      record {
        up = good.up;
        own_src = own_src;
        own_once = own_once;
        link_up = link_up;
        hi0_low = hi0_low;
        hi0_some = hi0_some;
        cap_is = cap_is;
        cap_some = cap_some;
      }

  pub law : ByMethod (shape_of B)
  law = (built B ready).by_method

pub searched_stands : SearchedStands
searched_stands P good d =
    let b = built (base_of P) (ready P good) in
    (b, named (shape_of (base_of P)) d b.by_method, carried (shape_of (base_of P)) d b.by_method)
