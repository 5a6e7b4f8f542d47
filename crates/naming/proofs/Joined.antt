-- What the list of a number holds, and when it is that of a number below, cut down.
use Rattle.std.proofs.Common.{◌≡◌, ℕ, zero, suc, ◌+◌, ◌<◌, ◌≤◌, Bool, true, false, not, eqb, ltb, ◌≢◌, ◌⊎◌, List, ◌++◌, filter, sym, refl, ap, ◌∙◌, subst, ap₂, inl, inr, arith}
use Rattle.std.proofs.lemmas.List.Elements.{filter-append}
use Rattle.std.proofs.lemmas.Bool.{cases_eq, cases_Bool, not-true, not_from_false, eqb-false, ne_eqb, ltb-true, lt-ltb}
use Rattle.naming.specs.Words.{Elem, Once, flat}
use Rattle.naming.specs.Names.{Shape, ByMethod, Over, Bracket}
use Rattle.naming.proofs.Lists.{elem_left, elem_right, elem_append, elem_keep, keep_elem, elem_flat, flat_elem, once_append, once_keep, once_flat, keep_none, keep_all, keep_inner, keep_flat}
use Rattle.naming.proofs.Trees.{sub_self, sub_le, sub_trans, sub_chain, kid_below, over_kid, kids_apart, kid_towards}
use Rattle.naming.proofs.Items.{Under, cap_pair, item_up}

module _ {X : Type 0} (S : Shape X) (law : ByMethod S) where
  abbrev away : ℕ → X → Bool
  away k x = not (eqb (S.dst x) k)

  abbrev rest : ℕ → List X
  rest k = flat S.list (S.kids k)

  pub own_over : (k : ℕ) (x : X) → k < S.size → Elem x (S.own k) → Over S k x
  own_over k x l m =
      let s = law.own_src k x l m in
      record {
        within = omega arith;
        item = rw s m;
        below = rw s (sub_self S law.tree k l);
        above = (item_up S law k x l m).1;
      }

  -- what passes above the child c and does not end at k passes above k
  over_join : (k c : ℕ) (x : X) → k < S.size → Elem c (S.kids k) → S.dst x ≢ k → Over S c x → Over S k x
  over_join k c x l m d o =
      let b = kid_below S law.tree k c l m in
      let up = item_up S law (S.src x) x o.within o.item in
      let at_c = sub_chain S law.tree (S.dst x) c (S.src x) o.within up.0 o.below (omega (arith, o.above)) in
      let le = sub_le S law.tree (S.dst x) k l (over_kid S law.tree (S.dst x) k c l m at_c o.above) in
      record {
        within = o.within;
        item = o.item;
        below = sub_trans S law.tree k c (S.src x) o.within b.2 o.below;
        above = omega arith;
      }

  list_over' : (m k : ℕ) (x : X) → S.size ≤ k + m → k < S.size → Elem x (S.list k) → Over S k x
  list_over' zero k x h l e = absurd (omega arith)
  list_over' (suc m) k x h l e =
      pick (elem_append x (S.own k) (filter (away k) (rest k)) (subst (λ i. Elem x i) (law.list_is k l) e)) (λ c. list_over' m c x)
    where
      pick :
          Elem x (S.own k) ⊎ Elem x (filter (away k) (rest k)) → ((c : ℕ) → S.size ≤ c + m → c < S.size → Elem x (S.list c) → Over S c x) → Over S k x
      pick (inl q) next = own_over k x l q
      pick (inr q) next =
          let t = elem_keep (away k) x (rest k) q in
          let r = elem_flat S.list x (S.kids k) t.0 in
          let b = kid_below S law.tree k r.0 l r.1 in
          over_join k r.0 x l r.1 (eqb-false (S.dst x) k (not-true (eqb (S.dst x) k) t.1)) (next r.0 (omega (arith, b.0)) b.1 r.2)

  pub list_over : (k : ℕ) (x : X) → k < S.size → Elem x (S.list k) → Over S k x
  list_over k x = list_over' S.size k x (omega arith)

  over_list' : (m k : ℕ) (x : X) → S.size ≤ k + m → k < S.size → Over S k x → Elem x (S.list k)
  over_list' zero k x h l o = absurd (omega arith)
  over_list' (suc m) k x h l o = pick (cases_eq (S.src x) k) (λ c. over_list' m c x)
    where
      pick : (S.src x ≡ k) ⊎ (S.src x ≡ k → ⊥) → ((c : ℕ) → S.size ≤ c + m → c < S.size → Over S c x → Elem x (S.list c)) → Elem x (S.list k)
      pick (inl e) next =
          subst (λ i. Elem x i) (sym (law.list_is k l))
          (elem_left x (S.own k) (filter (away k) (rest k)) (subst (λ (i : ℕ). Elem x (S.own i)) e o.item))
      pick (inr d) next =
          let r = kid_towards S law.tree k (S.src x) o.within o.below d in
          let b = kid_below S law.tree k r.0 l r.1 in
          let a = o.above in
          let q = next r.0 (omega (arith, b.0)) b.1 (record { within = o.within; item = o.item; below = r.2; above = omega (arith, b.0) }) in
          let far : S.dst x ≢ k = λ e. absurd (omega arith) in
          subst (λ i. Elem x i) (sym (law.list_is k l))
          (elem_right x (S.own k) (filter (away k) (rest k))
          (keep_elem (away k) x (rest k) (flat_elem S.list x r.0 (S.kids k) r.1 q)
          (not_from_false (eqb (S.dst x) k) (ne_eqb (S.dst x) k far))))

  pub over_list : (k : ℕ) (x : X) → k < S.size → Over S k x → Elem x (S.list k)
  over_list k x = over_list' S.size k x (omega arith)

  -- an item is in the list of one child at most
  pub apart : (k c d : ℕ) (x : X) → k < S.size → Elem c (S.kids k) → Elem d (S.kids k) → Elem x (S.list c) → Elem x (S.list d) → c ≡ d
  apart k c d x l mc md p q =
      let bc = kid_below S law.tree k c l mc in
      let bd = kid_below S law.tree k d l md in
      let oc = list_over c x bc.1 p in
      let od = list_over d x bd.1 q in
      kids_apart S law.tree k c d (S.src x) l oc.within mc md oc.below od.below

  once' : (m k : ℕ) → S.size ≤ k + m → k < S.size → Once (S.list k)
  once' zero k h l = absurd (omega arith)
  once' (suc m) k h l =
      subst (λ i. Once i) (sym (law.list_is k l))
      (once_append (S.own k) (filter (away k) (rest k)) (law.own_once k l)
      (once_keep (away k) (rest k)
      (once_flat S.list (S.kids k) (law.tree.kids_once k l)
      (λ c m'. let b = kid_below S law.tree k c l m' in once' m c (omega (arith, b.0)) b.1) (λ c d x. apart k c d x l)))
      clear)
    where
      clear : (x : X) → Elem x (S.own k) → Elem x (filter (away k) (rest k)) → ⊥
      clear x p q =
          let r = elem_flat S.list x (S.kids k) (elem_keep (away k) x (rest k) q).0 in
          let b = kid_below S law.tree k r.0 l r.1 in
          let o = list_over r.0 x b.1 r.2 in
          let le = sub_le S law.tree r.0 (S.src x) o.within o.below in
          let s = law.own_src k x l p in
          omega (arith, b.0)

  pub list_once : (k : ℕ) → k < S.size → Once (S.list k)
  list_once k = once' S.size k (omega arith)

  -- a back link from the subtree of k that goes above k
  pub bracket : (k z : ℕ) (x : X) → Under S z x → S.sub k z ≡ true → S.dst x < k → Bracket S k x
  bracket k z x u s a =
      (record { within = u.within; item = u.item; below = sub_trans S law.tree k z (S.src x) u.within s u.below; above = a }, u.link)

  pub bracket_under : (k : ℕ) (x : X) → Bracket S k x → Under S k x
  bracket_under k x b = record { within = b.0.within; item = b.0.item; link = b.1; below = b.0.below }

  -- a cap that passes above k comes with two brackets of k
  pub record Both (k : ℕ) (y : X) : Type 0 where
    pub r : X
    pub s : X
    pub r_is : Bracket S k r
    pub s_is : Bracket S k s
    pub apart : r ≢ s
    pub s_dst : S.dst s ≡ S.dst y

  pub cap_both : (k : ℕ) (y : X) → Over S k y → S.cap y ≡ true → Both k y
  cap_both k y o e =
      let z = S.src y in
      let p = cap_pair S law z y o.within o.item e in
      let bc = kid_below S law.tree z p.c o.within p.c_kid in
      let bd = kid_below S law.tree z p.d o.within p.d_kid in
      let a = o.above in
      record {
        r = p.r;
        s = p.s;
        r_is = bracket k p.c p.r p.r_under (sub_trans S law.tree k z p.c bc.1 o.below bc.2) (omega (arith, p.r_dst));
        s_is = bracket k p.d p.s p.s_under (sub_trans S law.tree k z p.d bd.1 o.below bd.2) (omega (arith, p.s_dst));
        apart = λ q. p.apart (kids_apart S law.tree z p.c p.d (S.src p.r) o.within p.r_under.within p.c_kid p.d_kid p.r_under.below
            (subst (λ i. S.sub p.d (S.src i) ≡ true) (sym q) p.s_under.below));
        s_dst = p.s_dst;
      }

  -- every item that passes above k ends where a bracket of k ends
  pub some_bracket : (k : ℕ) (y : X) → Over S k y → (r : X) × Bracket S k r × (S.dst r ≡ S.dst y)
  some_bracket k y o = pick (cases_Bool (S.cap y))
    where
      pick : (S.cap y ≡ true) ⊎ (S.cap y ≡ false) → (r : X) × Bracket S k r × (S.dst r ≡ S.dst y)
      pick (inl e) = let b = cap_both k y o e in (b.s, b.s_is, b.s_dst)
      pick (inr e) = (y, (o, e), refl)

  -- the items of a list that go above k
  abbrev pub cut : ℕ → List X → List X
  cut k xs = filter (λ x. ltb (S.dst x) k) xs

  -- beside the child c, nothing of z goes above k
  abbrev pub Quiet : ℕ → ℕ → ℕ → Type 0
  Quiet k z c =
      ((x : X) → Elem x (S.own z) → S.dst x < k → ⊥) ×
      ((d : ℕ) → Elem d (S.kids z) → d ≢ c → (x : X) → Elem x (S.list d) → S.dst x < k → ⊥)

  pub split : (k z : ℕ) → z < S.size → k ≤ z → cut k (S.list z) ≡ cut k (S.own z) ++ cut k (rest z)
  split k z l le =
      ap (cut k) (law.list_is z l) ∙ filter-append (λ x. ltb (S.dst x) k) (S.own z) (filter (away z) (rest z)) ∙
      ap (λ i. cut k (S.own z) ++ i) (keep_inner (λ x. ltb (S.dst x) k) (away z) (rest z) far)
    where
      far : (x : X) → ltb (S.dst x) k ≡ true → away z x ≡ true
      far x t =
          let a = ltb-true (S.dst x) k t in
          let ne : S.dst x ≢ z = λ e. absurd (omega arith) in
          not_from_false (eqb (S.dst x) z) (ne_eqb (S.dst x) z ne)

  narrow : (k z c : ℕ) → z < S.size → k ≤ z → Elem c (S.kids z) → Quiet k z c → cut k (S.list z) ≡ cut k (S.list c)
  narrow k z c l le m q =
      split k z l le ∙
      ap₂ ◌++◌ (keep_none (λ x. ltb (S.dst x) k) (S.own z) (λ x e t. q.0 x e (ltb-true (S.dst x) k t)))
      (keep_flat (λ x. ltb (S.dst x) k) S.list c (S.kids z) (law.tree.kids_once z l) m
      (λ d e n x i t. q.1 d e n x i (ltb-true (S.dst x) k t)))

  -- down from k to j, past numbers where nothing else goes above k
  walk' : (k j : ℕ) → j < S.size →
      ((z c : ℕ) → z < S.size → k ≤ z → S.sub k z ≡ true → Elem c (S.kids z) → S.sub c j ≡ true → cut k (S.list z) ≡ S.list k → Quiet k z c) →
      (m z : ℕ) → j < z + m → k ≤ z → S.sub k z ≡ true → S.sub z j ≡ true → cut k (S.list z) ≡ S.list k → cut k (S.list j) ≡ S.list k
  walk' k j lj step zero z h le s t e = let g = sub_le S law.tree z j lj t in absurd (omega arith)
  walk' k j lj step (suc m) z h le s t e = pick (cases_eq j z) (λ c. walk' k j lj step m c)
    where
      pick : (j ≡ z) ⊎ (j ≡ z → ⊥) →
          ((c : ℕ) → j < c + m → k ≤ c → S.sub k c ≡ true → S.sub c j ≡ true → cut k (S.list c) ≡ S.list k → cut k (S.list j) ≡ S.list k) →
          cut k (S.list j) ≡ S.list k
      pick (inl q) next = ap (λ (i : ℕ). cut k (S.list i)) q ∙ e
      pick (inr d) next =
          let g = sub_le S law.tree z j lj t in
          let lz : z < S.size = omega arith in
          let r = kid_towards S law.tree z j lj t d in
          let b = kid_below S law.tree z r.0 lz r.1 in
          next r.0 (omega (arith, b.0)) (omega (arith, b.0)) (sub_trans S law.tree k z r.0 b.1 s b.2) r.2
          (sym (narrow k z r.0 lz le r.1 (step z r.0 lz le s r.1 r.2 e)) ∙ e)

  pub cut_self : (k : ℕ) → k < S.size → cut k (S.list k) ≡ S.list k
  cut_self k l = keep_all (λ x. ltb (S.dst x) k) (S.list k) (λ x m. lt-ltb (S.dst x) k (list_over k x l m).above)

  pub walk : (k j : ℕ) → k < S.size → j < S.size → S.sub k j ≡ true →
      ((z c : ℕ) → z < S.size → k ≤ z → S.sub k z ≡ true → Elem c (S.kids z) → S.sub c j ≡ true → cut k (S.list z) ≡ S.list k → Quiet k z c) →
      cut k (S.list j) ≡ S.list k
  walk k j lk lj s step = walk' k j lj step (suc j) k (omega arith) (omega arith) (sub_self S law.tree k lk) s (cut_self k lk)
