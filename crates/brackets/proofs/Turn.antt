-- One number is handled.
use Rattle.std.proofs.Common.{◌≡◌, ℕ, suc, ◌+◌, ◌-◌, ◌<◌, ◌≤◌, min, max, Bool, true, false, cond, ◌&&◌, eqb, ltb, ◌≢◌, ◌⊎◌, List, [], ◌∷◌, ◌++◌, length, filter, Some, sym, refl, ap, ◌∙◌, subst, ap₂, inl, inr, arith, length-append}
use Rattle.std.specs.Option.{option_map}
use Rattle.std.specs.List.{AllByRecursion}
use Rattle.std.proofs.lemmas.List.Elements.{filter-append}
use Rattle.std.proofs.lemmas.List.{map-append, length-map}
use Rattle.std.proofs.lemmas.Bool.{cases_eq, cases_Bool, and_parts, ltb-true, ltb-false, eq-eqb, ne_eqb, cond-true, cond-false, cond_both}
use Rattle.lists.specs.Rows.{put, top}
use Rattle.naming.specs.Words.{flat}
use Rattle.naming.specs.Names.{Shape, Carries, Carried, ending_at}
use Rattle.naming.specs.Built.{Base, hi_of, shape_of}
use Rattle.naming.specs.Searched.{Searched, Upward, low_own, low_second, capped, base_of}
use Rattle.naming.specs.Turns.{numbers, later, Here, Joins}
use Rattle.naming.specs.Classes.{top_at, length_at}
use Rattle.naming.specs.Ended.{cap_ends}
use Rattle.naming.proofs.Bounded.{bounded}
use Rattle.naming.proofs.Searched.{ready, cap_dst, searched_stands}
use Rattle.naming.proofs.Turns.{numbers_more, turns}
use Rattle.brackets.specs.declared.levels.Level.{Level}
use Rattle.brackets.specs.declared.holding.Bracket.{Bracket}
use Rattle.brackets.specs.Levels.{level, change, having_end, having_child, has_cap}
use Rattle.brackets.specs.Live.{items, live, moved, with_start, with_cap, capped_levels}
use Rattle.brackets.specs.Swept.{state, Swept}
use Rattle.brackets.proofs.Changes.{change_same, change_other, change_long}
use Rattle.brackets.proofs.Live.{put_same, put_other, all_moved, all_passed, all_capped}

module _ (P : Searched) (good : Upward P) where
  abbrev B : Base ℕ
  B = base_of P

  abbrev S : Shape ℕ
  S = shape_of (base_of P)

  abbrev Right : Bracket → Type 0
  Right b = b.to ≡ (base_of P).dst b.item

  told : Carried ℕ S 0
  told = (searched_stands P good 0).2

  -- a list that carries the list of v still does without the ended brackets at its top
  live_carries : (v : ℕ) (bs : List Bracket) → AllByRecursion Right bs → Carries S v (items bs) → Carries S v (items (live v bs))
  live_carries v [] a c = c
  live_carries v (b ∷ bs) a c = pick (cases_Bool (ltb b.to v)) (live_carries v bs a.1)
    where
      pick : (ltb b.to v ≡ true) ⊎ (ltb b.to v ≡ false) → (Carries S v (items bs) → Carries S v (items (live v bs))) → Carries S v (items (live v (b ∷ bs)))
      pick (inl t) next = subst (λ l. Carries S v (items l)) (sym (cond-true (ltb b.to v) (b ∷ bs) (live v bs) t)) c
      pick (inr t) next =
          let e = ltb-false b.to v t in
          let r = a.0 in
          subst (λ l. Carries S v (items l)) (sym (cond-false (ltb b.to v) (b ∷ bs) (live v bs) t)) (next (told.pop v b.item (items bs) c (omega arith)))

  -- and its top is that of the list of v
  live_top : (v : ℕ) (bs : List Bracket) → AllByRecursion Right bs → 0 < length_at P v → Carries S v (items (live v bs)) → Some (top_at P v) ≡ option_map (λ b. b.item) (top (live v bs))
  live_top v [] a some c = let e = ap length (told.bare v c) in absurd (omega arith)
  live_top v (b ∷ bs) a some c = pick (cases_Bool (ltb b.to v)) (live_top v bs a.1 some)
    where
      pick : (ltb b.to v ≡ true) ⊎ (ltb b.to v ≡ false) → (Carries S v (items (live v bs)) → Some (top_at P v) ≡ option_map (λ b. b.item) (top (live v bs))) →
          Some (top_at P v) ≡ option_map (λ b. b.item) (top (live v (b ∷ bs)))
      pick (inl t) next =
          let e = cond-true (ltb b.to v) (b ∷ bs) (live v bs) t in
          let h = ltb-true b.to v t in
          let r = a.0 in
          let q = told.top v b.item (items bs) (subst (λ l. Carries S v (items l)) e c) (omega arith) in
          ap Some q ∙ ap (λ l. option_map (λ b. b.item) (top l)) (sym e)
      pick (inr t) next =
          let e = cond-false (ltb b.to v) (b ∷ bs) (live v bs) t in
          next (subst (λ l. Carries S v (items l)) e c) ∙ ap (λ l. option_map (λ b. b.item) (top l)) (sym e)

  module _ (back : ℕ → ℕ) (counted : (v : ℕ) → v < P.size → length (ending_at S v (later B (suc v))) ≡ back v + cap_ends P (P.size - suc v) (suc v) v)
      (v : ℕ) (pv : 0 < v) (lv : v < P.size) (some : 0 < length_at P v) (rows : ℕ → List Bracket) (levels : List Level) (W : Swept P back (suc v) rows levels) where
    abbrev n : ℕ
    n = P.size

    abbrev u : ℕ
    u = P.parent v

    up : P.parent v < v
    up = good.up v pv lv

    here : Here B v (state P (suc v) rows levels)
    here = (turns B (ready P good)).here v (state P (suc v) rows levels) lv W.sofar

    -- hi0 and hi2 of v are known when v is handled
    hi2_told : (level levels v).hi2 ≡ low_second P v
    hi2_told = sym here.hi2_here

    hi0_told : (level levels v).hi0 ≡ low_own P v
    hi0_told = W.hi0 v lv

    pub cap_told : has_cap (level levels v) v ≡ capped P v
    cap_told = ap₂ (λ (a b : ℕ). ltb a b && ltb a v) hi2_told hi0_told

    cap_below : capped P v ≡ true → low_second P v < v
    cap_below t = ltb-true (low_second P v) v (and_parts (ltb (low_second P v) (low_own P v)) (ltb (low_second P v) v) t).1

    -- the cap is put to the own brackets
    abbrev cap : Bracket
    cap = record { item = P.many + v; to = (level levels v).hi2 }

    abbrev rows1 : ℕ → List Bracket
    rows1 = with_cap n P.many levels rows v

    with : capped P v ≡ true → (j : ℕ) → rows1 j ≡ put rows (n + v) (cap ∷ rows (n + v)) j
    with t j = ap (λ f. f j) (cond-true (has_cap (level levels v) v) (with_start n rows (P.many + v) v (level levels v).hi2) rows (cap_told ∙ t))

    without : capped P v ≡ false → (j : ℕ) → rows1 j ≡ rows j
    without t j = ap (λ f. f j) (cond-false (has_cap (level levels v) v) (with_start n rows (P.many + v) v (level levels v).hi2) rows (cap_told ∙ t))

    own_items : items (rows1 (n + v)) ≡ B.own v
    own_items = pick (cases_Bool (capped P v))
      where
        links : items (rows (n + v)) ≡ P.links v
        links = W.own v (omega arith)

        pick : (capped P v ≡ true) ⊎ (capped P v ≡ false) → items (rows1 (n + v)) ≡ B.own v
        pick (inl t) =
            ap items (with t (n + v) ∙ put_same rows (n + v) (cap ∷ rows (n + v))) ∙ ap (λ (xs : List ℕ). (P.many + v) ∷ xs) links ∙
            sym (cond-true (capped P v) ((P.many + v) ∷ P.links v) (P.links v) t)
        pick (inr t) = ap items (without t (n + v)) ∙ links ∙ sym (cond-false (capped P v) ((P.many + v) ∷ P.links v) (P.links v) t)

    keep1 : (j : ℕ) → j ≢ n + v → rows1 j ≡ rows j
    keep1 j d = pick (cases_Bool (capped P v))
      where
        pick : (capped P v ≡ true) ⊎ (capped P v ≡ false) → rows1 j ≡ rows j
        pick (inl t) = with t j ∙ put_other rows (n + v) j (cap ∷ rows (n + v)) d
        pick (inr t) = without t j

    right1 : (j : ℕ) → AllByRecursion Right (rows1 j)
    right1 = all_capped Right n P.many levels rows v (hi2_told ∙ sym (cap_dst P good (P.many + v) v refl)) W.right

    -- the own brackets go in front of the children's
    abbrev rows2 : ℕ → List Bracket
    rows2 = moved rows1 v (n + v)

    right2 : (j : ℕ) → AllByRecursion Right (rows2 j)
    right2 = all_moved Right rows1 v (n + v) right1

    at_v : rows2 v ≡ rows1 (n + v) ++ rows v
    at_v = put_same (put rows1 (n + v) []) v (rows1 (n + v) ++ rows1 v) ∙ ap (λ l. rows1 (n + v) ++ l) (keep1 v (λ e. absurd (omega arith)))

    carries : Carries S v (items (rows2 v))
    carries =
        subst (λ (l : List ℕ). Carries S v l) (sym (ap items at_v ∙ map-append (λ b. b.item) (rows1 (n + v)) (rows v) ∙ ap (λ (l : List ℕ). l ++ items (rows v)) own_items)) here.items_here

    keep2 : (j : ℕ) → j ≢ v → j ≢ n + v → rows2 j ≡ rows j
    keep2 j d e = put_other (put rows1 (n + v) []) v j (rows1 (n + v) ++ rows1 v) d ∙ put_other rows1 (n + v) j [] e ∙ keep1 j e

    -- ended brackets are taken off its top
    abbrev left : List Bracket
    left = live v (rows2 v)

    abbrev rows3 : ℕ → List Bracket
    rows3 = put rows2 v left

    left_carries : Carries S v (items left)
    left_carries = live_carries v (rows2 v) (right2 v) carries

    pub top_told : Some (top_at P v) ≡ option_map (λ b. b.item) (top left)
    top_told = live_top v (rows2 v) (right2 v) some left_carries

    -- what is left goes in front of the parent's
    abbrev rows4 : ℕ → List Bracket
    rows4 = moved rows3 u v

    at_u : rows4 u ≡ left ++ rows u
    at_u =
        let h = up in
        put_same (put rows3 v []) u (rows3 v ++ rows3 u) ∙
        ap₂ ◌++◌ (put_same rows2 v left) (put_other rows2 v u left (λ e. absurd (omega arith)) ∙ keep2 u (λ e. absurd (omega arith)) (λ e. absurd (omega arith)))

    keep4 : (j : ℕ) → j ≢ u → j ≢ v → j ≢ n + v → rows4 j ≡ rows j
    keep4 j d e f = put_other (put rows3 v []) u j (rows3 v ++ rows3 u) d ∙ put_other rows3 v j [] e ∙ put_other rows2 v j left e ∙ keep2 j e f

    right4 : (j : ℕ) → AllByRecursion Right (rows4 j)
    right4 = all_passed Right rows1 v (n + v) u right1

    -- the length of the list of v
    pub length_told : length (rows1 (n + v)) + (level levels v).len ≡ length_at P v + (level levels v).ends
    length_told =
        let a = sym (length-map (rows1 (n + v)) (λ b. b.item)) ∙ ap length own_items in
        let b = here.len_here in
        let c = counted v lv in
        let d = W.ends v lv in
        omega arith

    -- the cap is counted where it ends
    abbrev levels1 : List Level
    levels1 = capped_levels levels v

    abbrev ends_here : ℕ → Bool
    ends_here p = capped P v && eqb (low_second P v) p

    level1 : (p : ℕ) → level levels1 p ≡ cond (ends_here p) (having_end (level levels p)) (level levels p)
    level1 p = pick (cases_Bool (capped P v))
      where
        pick : (capped P v ≡ true) ⊎ (capped P v ≡ false) → level levels1 p ≡ cond (ends_here p) (having_end (level levels p)) (level levels p)
        pick (inr t) =
            ap (λ (ls : List Level). level ls p) (cond-false (has_cap (level levels v) v) (change levels (level levels v).hi2 having_end) levels (cap_told ∙ t)) ∙
            sym (ap (λ (s : Bool). cond (s && eqb (low_second P v) p) (having_end (level levels p)) (level levels p)) t)
        pick (inl t) =
            ap (λ (ls : List Level). level ls p) (cond-true (has_cap (level levels v) v) (change levels (level levels v).hi2 having_end) levels (cap_told ∙ t) ∙ ap (λ (i : ℕ). change levels i having_end) hi2_told) ∙
            at (cases_eq p (low_second P v)) ∙
            sym (ap (λ (s : Bool). cond (s && eqb (low_second P v) p) (having_end (level levels p)) (level levels p)) t)
          where
            at : (p ≡ low_second P v) ⊎ (p ≡ low_second P v → ⊥) → level (change levels (low_second P v) having_end) p ≡ cond (eqb (low_second P v) p) (having_end (level levels p)) (level levels p)
            at (inl e) =
                change_same levels (low_second P v) having_end p e (let h = cap_below t in let l = W.long in omega arith) ∙ ap (λ (i : ℕ). having_end (level levels i)) (sym e) ∙
                sym (cond-true (eqb (low_second P v) p) (having_end (level levels p)) (level levels p) (eq-eqb (low_second P v) p (sym e)))
            at (inr d) =
                change_other levels (low_second P v) having_end p d ∙
                sym (cond-false (eqb (low_second P v) p) (having_end (level levels p)) (level levels p) (ne_eqb (low_second P v) p (λ e. d (sym e))))

    -- but for the count, the levels are as they were
    field : {A : Type 0} (f : Level → A) → ((l : Level) → f (having_end l) ≡ f l) → (p : ℕ) → f (level levels1 p) ≡ f (level levels p)
    field f same p =
        ap f (level1 p) ∙ cond_both (ends_here p) (having_end (level levels p)) (level levels p) (λ x. f x ≡ f (level levels p)) (λ _. same (level levels p)) (λ _. refl)

    pub long1 : length levels1 ≡ n
    long1 = cond_both (has_cap (level levels v) v) (change levels (level levels v).hi2 having_end) levels (λ ls. length ls ≡ n) (λ _. change_long levels (level levels v).hi2 having_end ∙ W.long) (λ _. W.long)

    -- the parent learns of v
    abbrev high : ℕ
    high = min (level levels v).hi0 (level levels v).hi1

    abbrev child : Level → Level
    child l = having_child l high (length_at P v)

    abbrev levels2 : List Level
    levels2 = change levels1 u child

    high_told : hi_of B v ≡ high
    high_told = here.hi_here ∙ ap (λ (i : ℕ). min i (level levels v).hi1) (sym hi0_told)

    parent_level : level levels2 u ≡ child (level levels1 u)
    parent_level = change_same levels1 u child u refl (let h = up in let l = long1 in omega arith)

    other_level : {A : Type 0} (f : Level → A) → ((l : Level) → f (having_end l) ≡ f l) → (p : ℕ) → u ≢ p → f (level levels2 p) ≡ f (level levels p)
    other_level f same p d = ap f (change_other levels1 u child p (λ e. d (sym e))) ∙ field f same p

    -- the own items of v that end at p, and those of the numbers behind it
    ends_more : (p : ℕ) → length (ending_at S p (later B v)) ≡ length (filter (λ x. eqb (B.dst x) p) (B.own v)) + length (ending_at S p (later B (suc v)))
    ends_more p =
        ap (λ i. length (ending_at S p i)) (ap (λ (i : ℕ). numbers i v) (let e : n - v ≡ suc (n - suc v) = omega arith in e) ∙ numbers_more (n - suc v) v) ∙
        ap length (filter-append (λ x. eqb (B.dst x) p) (B.own v) (flat B.own (later B (suc v)))) ∙
        length-append (filter (λ x. eqb (B.dst x) p) (B.own v)) (ending_at S p (later B (suc v)))

    joins : Joins B v (items left) (state P (suc v) rows levels) (state P v rows4 levels2)
    joins =
        record {
          items_up = ap items at_u ∙ map-append (λ b. b.item) left (rows u);
          items_rest = λ p h d. ap items (keep4 p (λ e. d (sym e)) (λ e. absurd (omega arith)) (λ e. absurd (omega arith)));
          len_up = ap (λ (l : Level). l.len) parent_level ∙ ap (λ (i : ℕ). length_at P v + i) (field (λ l. l.len) (λ l. refl) u);
          len_rest = λ p h. other_level (λ l. l.len) (λ l. refl) p;
          lo_up = ap (λ (l : Level). l.hi1) parent_level ∙ ap₂ min (sym high_told) (field (λ l. l.hi1) (λ l. refl) u);
          lo_rest = λ p h. other_level (λ l. l.hi1) (λ l. refl) p;
          lo2_up = ap (λ (l : Level). l.hi2) parent_level ∙ ap₂ min (ap₂ max (sym high_told) (field (λ l. l.hi1) (λ l. refl) u)) (field (λ l. l.hi2) (λ l. refl) u);
          lo2_rest = λ p h. other_level (λ l. l.hi2) (λ l. refl) p;
          ends_up = λ p h. ends_more p;
        }

    -- what does not change by a child
    at_child : {A : Type 0} (f : Level → A) → ((l : Level) → f (child l) ≡ f l) → (p : ℕ) → f (level levels2 p) ≡ f (level levels1 p)
    at_child f same p = pick (cases_eq p u)
      where
        pick : (p ≡ u) ⊎ (p ≡ u → ⊥) → f (level levels2 p) ≡ f (level levels1 p)
        pick (inl e) = ap (λ (i : ℕ). f (level levels2 i)) e ∙ ap f parent_level ∙ same (level levels1 u) ∙ ap (λ (i : ℕ). f (level levels1 i)) (sym e)
        pick (inr d) = ap f (change_other levels1 u child p d)

    caps_more : (p : ℕ) → cap_ends P (n - v) v p ≡ cond (ends_here p) 1 0 + cap_ends P (n - suc v) (suc v) p
    unfolding cap_ends
    caps_more p = ap (λ (i : ℕ). cap_ends P i v p) (let e : n - v ≡ suc (n - suc v) = omega arith in e)

    ends : (p : ℕ) → p < n → (level levels2 p).ends ≡ back p + cap_ends P (n - v) v p
    ends p l = at_child (λ l. l.ends) (λ l. refl) p ∙ ap (λ (l : Level). l.ends) (level1 p) ∙ pick (cases_Bool (ends_here p))
      where
        pick : (ends_here p ≡ true) ⊎ (ends_here p ≡ false) → (cond (ends_here p) (having_end (level levels p)) (level levels p)).ends ≡ back p + cap_ends P (n - v) v p
        pick (inl t) =
            let a = ap (λ (l : Level). l.ends) (cond-true (ends_here p) (having_end (level levels p)) (level levels p) t) in
            let b = W.ends p l in
            let c : ◌≡◌ {A = ℕ} (cond (ends_here p) 1 0) 1 = ap (λ (s : Bool). cond s 1 0) t in
            let d = caps_more p in
            omega arith
        pick (inr t) =
            let a = ap (λ (l : Level). l.ends) (cond-false (ends_here p) (having_end (level levels p)) (level levels p) t) in
            let b = W.ends p l in
            let c : ◌≡◌ {A = ℕ} (cond (ends_here p) 1 0) 0 = ap (λ (s : Bool). cond s 1 0) t in
            let d = caps_more p in
            omega arith

    pub turned : Swept P back v rows4 levels2
    turned =
        record {
          long = change_long levels1 u child ∙ long1;
          right = right4;
          own = λ p h. let k = up in ap items (keep4 (n + p) (λ e. absurd (omega arith)) (λ e. absurd (omega arith)) (λ e. absurd (omega arith))) ∙ W.own p (omega arith);
          sofar = (turns B (ready P good)).next v (state P (suc v) rows levels) (state P v rows4 levels2) (items left) pv lv W.sofar left_carries joins;
          hi0 = λ p l. at_child (λ l. l.hi0) (λ l. refl) p ∙ field (λ l. l.hi0) (λ l. refl) p ∙ W.hi0 p l;
          ends = ends;
        }

    -- the sums stay small
    pub parent_few : length_at P v + (level levels1 u).len ≤ P.many + P.size
    parent_few =
        let a = turned.sofar.len_is u up in
        let b = ap (λ (l : Level). l.len) parent_level in
        let c = (bounded P good).kids v u pv (omega arith) (let h = up in omega arith) in
        omega arith

    pub list_few : length_at P v ≤ P.many + P.size
    list_few = (bounded P good).list v lv
