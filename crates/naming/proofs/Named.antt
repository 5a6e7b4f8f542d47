-- The top of a list and its length tell its back links.
use Rattle.std.proofs.Common.{◌≡◌, ℕ, ◌<◌, ◌≤◌, true, false, ltb, ◌≢◌, ◌⊎◌, ◌↔◌, List, [], ◌∷◌, length, get_or, sym, refl, ap, ◌∙◌, subst, inl, inr, arith}
use Rattle.std.proofs.lemmas.Bool.{cases_lt, cases_Bool, lt-ltb, false_from_ne_true}
use Rattle.naming.specs.Words.{Elem, flat}
use Rattle.naming.specs.Names.{Shape, ByMethod, Over, Bracket, SameBracketsAt, SameName, Named}
use Rattle.naming.proofs.Lists.{elem_keep, keep_elem, keep_all, keep_same, top_front, single, none_empty}
use Rattle.naming.proofs.Trees.{sub_le, sub_trans, sub_chain, kid_below, kids_apart}
use Rattle.naming.proofs.Items.{Under, cap_pair, two_own}
use Rattle.naming.proofs.Joined.{own_over, list_over, over_list, list_once, bracket, bracket_under, cap_both, some_bracket, cut, Quiet, split, walk}

module _ {X : Type 0} (S : Shape X) (law : ByMethod S) where
  -- a number with a child above j is not below j
  not_below : (j z c : ℕ) → z < S.size → j < S.size → Elem c (S.kids z) → S.sub c j ≡ true → S.sub j z ≡ true → ⊥
  not_below j z c lz lj m s t =
      let a = sub_le S law.tree c j lj s in
      let b = sub_le S law.tree j z lz t in
      let k = kid_below S law.tree z c lz m in
      omega (arith, k.0)

  -- the top comes from the subtree of j: then the whole list does
  pub top_tells : (k j : ℕ) (x : X) (xs : List X) → k < S.size → j < S.size → S.sub k j ≡ true → S.list k ≡ x ∷ xs → S.sub j (S.src x) ≡ true →
      cut S law k (S.list j) ≡ S.list k
  top_tells k j x xs lk lj s e t = walk S law k j lk lj s quiet
    where
      here : Over S k x
      here = list_over S law k x lk (subst (λ i. Elem x i) (sym e) (inl refl))

      quiet :
          (z c : ℕ) → z < S.size → k ≤ z → S.sub k z ≡ true → Elem c (S.kids z) → S.sub c j ≡ true → cut S law k (S.list z) ≡ S.list k →
          Quiet S law k z c
      quiet z c lz le sz m sc f = (alone, λ d md n y my hy. others d md n y my hy)
        where
          b : (z < c) × (c < S.size) × (S.sub z c ≡ true)
          b = kid_below S law.tree z c lz m

          alone : (y : X) → Elem y (S.own z) → S.dst y < k → ⊥
          alone y my hy =
              let q = top_front y x (cut S law k (S.own z)) (cut S law k (flat S.list (S.kids z))) xs (sym (split S law k z lz le) ∙ f ∙ e)
              (keep_elem (λ i. ltb (S.dst i) k) y (S.own z) my (lt-ltb (S.dst y) k hy)) in
              let o = law.own_src z x lz (elem_keep (λ i. ltb (S.dst i) k) x (S.own z) q).0 in
              not_below j z c lz lj m sc (ap (S.sub j) (sym o) ∙ t)

          others : (d : ℕ) → Elem d (S.kids z) → d ≢ c → (y : X) → Elem y (S.list d) → S.dst y < k → ⊥
          others d md n y my hy =
              let bc = b in
              let bd = kid_below S law.tree z d lz md in
              let hx = here.above in
              let over_c : Over S c x =
              record { within = here.within; item = here.item; below = sub_trans S law.tree c j (S.src x) here.within sc t; above = omega (arith, bc.0) } in
              let r = some_bracket S law c x over_c in
              let q = some_bracket S law d y (list_over S law d y bd.1 my) in
              let w = two_own S law k z d c q.0 r.0 lz le md m n (bracket_under S law d q.0 q.1) (bracket_under S law c r.0 r.1)
              (omega (arith, q.2)) (omega (arith, r.2)) in
              alone w.0 w.1 w.2

  told_below : (k j : ℕ) (x : X) (xs : List X) → k < S.size → j < S.size → S.sub k j ≡ true → S.list k ≡ x ∷ xs → S.sub j (S.src x) ≡ true →
      length (S.list k) ≡ length (S.list j) → S.list k ≡ S.list j
  told_below k j x xs lk lj s e t n =
      let c = top_tells k j x xs lk lj s e t in
      sym c ∙ keep_same (λ i. ltb (S.dst i) k) (S.list j) (ap length c ∙ n)

  pub told : (d : X) (k j : ℕ) → k < S.size → j < S.size → SameName S d k j → S.list k ≡ S.list j
  told d k j lk lj same = pick (S.list k) (S.list j) refl refl
    where
      both : (x : X) (xs ys : List X) → S.list k ≡ x ∷ xs → S.list j ≡ x ∷ ys → S.list k ≡ S.list j
      both x xs ys e f = split_on (cases_lt k j)
        where
          ok : Over S k x
          ok = list_over S law k x lk (subst (λ i. Elem x i) (sym e) (inl refl))

          oj : Over S j x
          oj = list_over S law j x lj (subst (λ i. Elem x i) (sym f) (inl refl))

          split_on : (k < j) ⊎ (j ≤ k) → S.list k ≡ S.list j
          split_on (inl h) =
              told_below k j x xs lk lj (sub_chain S law.tree k j (S.src x) ok.within ok.below oj.below (omega arith)) e oj.below same.1
          split_on (inr h) =
              sym (told_below j k x ys lj lk (sub_chain S law.tree j k (S.src x) ok.within oj.below ok.below h) f ok.below (sym same.1))

      pick : (xs ys : List X) → S.list k ≡ xs → S.list j ≡ ys → S.list k ≡ S.list j
      pick [] [] e f = e ∙ sym f
      pick [] (y ∷ ys) e f = absurd (omega (arith, sym (ap length e) ∙ same.1 ∙ ap length f))
      pick (x ∷ xs) [] e f = absurd (omega (arith, sym (ap length e) ∙ same.1 ∙ ap length f))
      pick (x ∷ xs) (y ∷ ys) e f =
          let top : y ≡ x = sym (ap (λ i. get_or i 0 d) f) ∙ sym same.0 ∙ ap (λ i. get_or i 0 d) e in
          both x xs ys e (f ∙ ap (λ i. i ∷ ys) top)

  -- the same brackets, one below the other: the same list
  alike_below : (k j : ℕ) → k < S.size → j < S.size → S.sub k j ≡ true → SameBracketsAt S k j → S.list k ≡ S.list j
  alike_below k j lk lj s same = sym (walk S law k j lk lj s quiet) ∙ keep_all (λ i. ltb (S.dst i) k) (S.list j) low
    where
      low : (y : X) → Elem y (S.list j) → ltb (S.dst y) k ≡ true
      low y m =
          let r = some_bracket S law j y (list_over S law j y lj m) in
          let o = (same r.0).1 r.1 in
          lt-ltb (S.dst y) k (omega (arith, r.2, o.0.above))

      quiet :
          (z c : ℕ) → z < S.size → k ≤ z → S.sub k z ≡ true → Elem c (S.kids z) → S.sub c j ≡ true → cut S law k (S.list z) ≡ S.list k →
          Quiet S law k z c
      quiet z c lz le sz m sc f = (λ y my hy. alone y my hy (cases_Bool (S.cap y)), others)
        where
          -- a back link from a child of z that goes above k is from the child c
          from_c : (d : ℕ) (r : X) → Elem d (S.kids z) → Under S d r → S.dst r < k → d ≡ c
          from_c d r md u h =
              let bd = kid_below S law.tree z d lz md in
              let o = (same r).0 (bracket S law k d r u (sub_trans S law.tree k z d bd.1 sz bd.2) h) in
              kids_apart S law.tree z d c (S.src r) lz u.within md m u.below
              (sub_trans S law.tree c j (S.src r) u.within sc o.0.below)

          alone : (y : X) → Elem y (S.own z) → S.dst y < k → (S.cap y ≡ true) ⊎ (S.cap y ≡ false) → ⊥
          alone y my hy (inl e) =
              let p = cap_pair S law z y lz my e in
              let ec = from_c p.c p.r p.c_kid p.r_under (omega (arith, p.r_dst)) in
              let ed = from_c p.d p.s p.d_kid p.s_under (omega (arith, p.s_dst)) in
              p.apart (ec ∙ sym ed)
          alone y my hy (inr e) =
              let oz = own_over S law z y lz my in
              let src = law.own_src z y lz my in
              let ok : Over S k y =
              record { within = oz.within; item = oz.item; below = ap (S.sub k) src ∙ sz; above = hy } in
              let oj = (same y).0 (ok, e) in
              not_below j z c lz lj m sc (ap (S.sub j) (sym src) ∙ oj.0.below)

          others : (d : ℕ) → Elem d (S.kids z) → d ≢ c → (y : X) → Elem y (S.list d) → S.dst y < k → ⊥
          others d md n y my hy =
              let bd = kid_below S law.tree z d lz md in
              let r = some_bracket S law d y (list_over S law d y bd.1 my) in
              n (from_c d r.0 md (bracket_under S law d r.0 r.1) (omega (arith, r.2)))

  alike_lists : (k j : ℕ) → k < S.size → j < S.size → SameBracketsAt S k j → S.list k ≡ S.list j
  alike_lists k j lk lj same = pick (S.list k) refl
    where
      both : (r : X) → Bracket S k r → Bracket S j r → (k < j) ⊎ (j ≤ k) → S.list k ≡ S.list j
      both r p q (inl h) = alike_below k j lk lj (sub_chain S law.tree k j (S.src r) p.0.within p.0.below q.0.below (omega arith)) same
      both r p q (inr h) =
          sym (alike_below j k lj lk (sub_chain S law.tree j k (S.src r) p.0.within q.0.below p.0.below h) (λ x. ((same x).1, (same x).0)))

      pick : (xs : List X) → S.list k ≡ xs → S.list k ≡ S.list j
      pick [] e = e ∙ sym (none_empty (S.list j) none)
        where
          none : (y : X) → Elem y (S.list j) → ⊥
          none y m =
              let r = some_bracket S law j y (list_over S law j y lj m) in
              subst (λ i. Elem r.0 i) e (over_list S law k r.0 lk ((same r.0).1 r.1).0)
      pick (x ∷ xs) e =
          let r = some_bracket S law k x (list_over S law k x lk (subst (λ i. Elem x i) (sym e) (inl refl))) in
          both r.0 r.1 ((same r.0).0 r.1) (cases_lt k j)

  lists_alike : (k j : ℕ) → k < S.size → j < S.size → S.list k ≡ S.list j → SameBracketsAt S k j
  lists_alike k j lk lj e x = (
    λ b. (list_over S law j x lj (subst (λ i. Elem x i) e (over_list S law k x lk b.0)), b.1),
    λ b. (list_over S law k x lk (subst (λ i. Elem x i) (sym e) (over_list S law j x lj b.0)), b.1),
  )

  lone_to : (k : ℕ) (b : X) → k < S.size → S.list k ≡ b ∷ [] → (x : X) → Bracket S k x ↔ (x ≡ b)
  lone_to k b l e x = (only x, λ q. subst (λ i. Bracket S k i) (sym q) (here, false_from_ne_true (S.cap b) not_cap))
    where
      at_top : (y : X) → Elem y (b ∷ []) → y ≡ b
      at_top y (inl q) = q
      at_top y (inr m) = absurd m

      only : (y : X) → Bracket S k y → y ≡ b
      only y q = at_top y (subst (λ i. Elem y i) e (over_list S law k y l q.0))

      here : Over S k b
      here = list_over S law k b l (subst (λ i. Elem b i) (sym e) (inl refl))

      not_cap : S.cap b ≡ true → ⊥
      not_cap t = let p = cap_both S law k b here t in p.apart (only p.r p.r_is ∙ sym (only p.s p.s_is))

  lone_from : (k : ℕ) (b : X) → k < S.size → ((x : X) → Bracket S k x ↔ (x ≡ b)) → S.list k ≡ b ∷ []
  lone_from k b l h =
      single b (S.list k) (list_once S law k l) (over_list S law k b l ((h b).1 refl).0) (λ y m. each y (list_over S law k y l m) (cases_Bool (S.cap y)))
    where
      each : (y : X) → Over S k y → (S.cap y ≡ true) ⊎ (S.cap y ≡ false) → y ≡ b
      each y o (inl t) = let p = cap_both S law k y o t in absurd (p.apart ((h p.r).0 p.r_is ∙ sym ((h p.s).0 p.s_is)))
      each y o (inr t) = (h y).0 (o, t)

  one_item : (d b : X) (xs : List X) → get_or xs 0 d ≡ b → length xs ≡ 1 → xs ≡ b ∷ []
  one_item d b [] e h = absurd (omega arith)
  one_item d b (x ∷ []) e h = ap (λ i. i ∷ []) e
  one_item d b (x ∷ (y ∷ xs)) e h = absurd (omega arith)

  pub all_named : (d : X) → Named X S d
  all_named d =
      record {
        holds = λ k x l. (list_over S law k x l, over_list S law k x l);
        once = list_once S law;
        front = λ k j x xs lk lj s e t. sym (top_tells k j x xs lk lj s e t);
        told = told d;
        alike = λ k j lk lj. (alike_lists k j lk lj, lists_alike k j lk lj);
        names = λ k j lk lj. (
          λ h. lists_alike k j lk lj (told d k j lk lj h),
          λ h. let e = alike_lists k j lk lj h in (ap (λ i. get_or i 0 d) e, ap length e),
        );
        lone = λ k b l. (
          λ h. lone_to k b l (one_item d b (S.list k) h.0 h.1),
          λ h. let e = lone_from k b l h in (ap (λ i. get_or i 0 d) e, ap length e),
        );
      }

pub named : {X : Type 0} (S : Shape X) (d : X) → ByMethod S → Named X S d
named S d law = all_named S law d
