-- Rows that keep what has ended.
use Rattle.std.proofs.Common.{◌≡◌, ℕ, ◌+◌, ◌<◌, ◌≤◌, Bool, true, not, eqb, ltb, ◌↔◌, List, [], ◌∷◌, ◌++◌, length, get_or, filter, sym, refl, ap, ◌∙◌, subst, ap₂, inl, inr, arith, length-append}
use Rattle.std.proofs.lemmas.List.Elements.{filter-append}
use Rattle.std.proofs.lemmas.List.Filters.{length-filter_both}
use Rattle.std.proofs.lemmas.Bool.{ltb-true, lt-ltb, le-ltb, eqb-true, cond-true, cond-false}
use Rattle.naming.specs.Words.{Elem, Once, flat}
use Rattle.naming.specs.Names.{Shape, ByMethod, Over, Carries, ending_at, Carried}
use Rattle.naming.proofs.Lists.{elem_keep, keep_elem, elem_flat, flat_elem, once_keep, once_flat, keep_inner, once_length}
use Rattle.naming.proofs.Trees.{sub_le, kid_below, kid_towards}
use Rattle.naming.proofs.Items.{item_up}
use Rattle.naming.proofs.Joined.{list_over, over_list, list_once, apart, own_over, split, cut_self}

-- a filter sees only what passes it in each of the lists
keep_lists : {X : Type 0} (p : X → Bool) (L M : ℕ → List X) (cs : List ℕ) → ((c : ℕ) → Elem c cs → filter p (L c) ≡ filter p (M c)) →
    filter p (flat L cs) ≡ filter p (flat M cs)
keep_lists p L M [] h = refl
keep_lists p L M (c ∷ cs) h =
    filter-append p (L c) (flat L cs) ∙ ap₂ ◌++◌ (h c (inl refl)) (keep_lists p L M cs (λ d m. h d (inr m))) ∙ sym (filter-append p (M c) (flat M cs))

module _ {X : Type 0} (S : Shape X) (law : ByMethod S) where
  abbrev goes : ℕ → X → Bool
  goes k x = ltb (S.dst x) k

  abbrev ends : ℕ → X → Bool
  ends k x = eqb (S.dst x) k

  join :
      (k : ℕ) (held : ℕ → List X) → k < S.size → ((c : ℕ) → Elem c (S.kids k) → Carries S c (held c)) → Carries S k (S.own k ++ flat held (S.kids k))
  join k held l each =
      filter-append (goes k) (S.own k) (flat held (S.kids k)) ∙
      ap (λ i. filter (goes k) (S.own k) ++ i) (keep_lists (goes k) held S.list (S.kids k) same) ∙
      sym (split S law k k l (omega arith)) ∙ cut_self S law k l
    where
      same : (c : ℕ) → Elem c (S.kids k) → filter (goes k) (held c) ≡ filter (goes k) (S.list c)
      same c m =
          let b = kid_below S law.tree k c l m in
          sym (keep_inner (goes k) (goes c) (held c) (λ x t. let h = ltb-true (S.dst x) k t in lt-ltb (S.dst x) c (omega (arith, b.0)))) ∙
          ap (filter (goes k)) (each c m)

  pop : (k : ℕ) (x : X) (xs : List X) → Carries S k (x ∷ xs) → k ≤ S.dst x → Carries S k xs
  pop k x xs r h = sym (cond-false (goes k x) (x ∷ filter (goes k) xs) (filter (goes k) xs) (le-ltb (S.dst x) k h)) ∙ r

  top : (d : X) (k : ℕ) (x : X) (xs : List X) → Carries S k (x ∷ xs) → S.dst x < k → get_or (S.list k) 0 d ≡ x
  top d k x xs r h =
      sym (ap (λ i. get_or i 0 d) (sym (cond-true (goes k x) (x ∷ filter (goes k) xs) (filter (goes k) xs) (lt-ltb (S.dst x) k h)) ∙ r))

  pub count : (k : ℕ) (js : List ℕ) → k < S.size → Once js → ((j : ℕ) → Elem j js ↔ ((k < j) × (j < S.size))) →
      length (S.list k) + length (ending_at S k js) ≡ length (S.own k) + length (flat S.list (S.kids k))
  count k js l o are =
      let a = ap length (law.list_is k l) ∙ length-append (S.own k) (filter (λ x. not (ends k x)) (flat S.list (S.kids k))) in
      let b = length-filter_both (ends k) (λ x. not (ends k x)) (λ x. refl) (flat S.list (S.kids k)) in
      let c = once_length (filter (ends k) (flat S.list (S.kids k))) (ending_at S k js) (once_keep (ends k) (flat S.list (S.kids k)) once_rest) to in
      let d = once_length (ending_at S k js) (filter (ends k) (flat S.list (S.kids k))) (once_keep (ends k) (flat S.own js) once_own) from in
      omega arith
    where
      once_rest : Once (flat S.list (S.kids k))
      once_rest =
          once_flat S.list (S.kids k) (law.tree.kids_once k l) (λ c m. list_once S law c (kid_below S law.tree k c l m).1)
          (λ c d x. apart S law k c d x l)

      once_own : Once (flat S.own js)
      once_own =
          once_flat S.own js o (λ j m. law.own_once j ((are j).0 m).1)
          (λ i j x mi mj p q. sym (law.own_src i x ((are i).0 mi).1 p) ∙ law.own_src j x ((are j).0 mj).1 q)

      to : (x : X) → Elem x (filter (ends k) (flat S.list (S.kids k))) → Elem x (ending_at S k js)
      to x m =
          let t = elem_keep (ends k) x (flat S.list (S.kids k)) m in
          let r = elem_flat S.list x (S.kids k) t.0 in
          let b = kid_below S law.tree k r.0 l r.1 in
          let v = list_over S law r.0 x b.1 r.2 in
          let le = sub_le S law.tree r.0 (S.src x) v.within v.below in
          keep_elem (ends k) x (flat S.own js) (flat_elem S.own x (S.src x) js ((are (S.src x)).1 (omega (arith, b.0), v.within)) v.item) t.1

      from : (x : X) → Elem x (ending_at S k js) → Elem x (filter (ends k) (flat S.list (S.kids k)))
      from x m =
          let t = elem_keep (ends k) x (flat S.own js) m in
          let r = elem_flat S.own x js t.0 in
          let j : ℕ = r.0 in
          let in_js = (are j).0 r.1 in
          let v = own_over S law j x in_js.1 r.2 in
          let e = eqb-true (S.dst x) k t.1 in
          let src = law.own_src j x in_js.1 r.2 in
          let up = item_up S law j x in_js.1 r.2 in
          let c = kid_towards S law.tree k j in_js.1 (subst (λ (i : ℕ). S.sub i j ≡ true) e up.0) (λ q. absurd (omega (arith, in_js.0, q))) in
          let b = kid_below S law.tree k c.0 l c.1 in
          let w : Over S c.0 x = record { within = v.within; item = v.item; below = ap (S.sub c.0) src ∙ c.2; above = omega (arith, b.0) } in
          keep_elem (ends k) x (flat S.list (S.kids k)) (flat_elem S.list x c.0 (S.kids k) c.1 (over_list S law c.0 x b.1 w)) t.1

  pub all_carried : (d : X) → Carried X S d
  all_carried d = record { join = join; pop = pop; top = top d; bare = λ k r. sym r; count = count }

pub carried : {X : Type 0} (S : Shape X) (d : X) → ByMethod S → Carried X S d
carried S d law = all_carried S law d
