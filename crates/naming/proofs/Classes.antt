-- Names tell classes: the tree of a search spans the closed plan, so its brackets tell classes, and names tell brackets.
use Rattle.std.proofs.Common.{◌≡◌, ℕ, ◌<◌, ◌≤◌, Bool, true, false, ◌||◌, eqb, ◌≢◌, ◌⊎◌, ◌↔◌, List, [], ◌∷◌, length, sym, ap, ◌∙◌, subst, ap₂, inl, inr, arith}
use Rattle.std.proofs.lemmas.Bool.Decides.{nat_tests}
use mathlib.Core.Bool.{xor}
use Rattle.std.proofs.lemmas.Bool.{cases_eq, cases_lt, ne_eqb, false_from_ne_true}
use Rattle.model.specs.Meaning.{Graph, tail_of, head_of}
use Rattle.model.specs.Walks.{closed, Share, Sound}
use Rattle.theory.specs.Cuts.{crosses}
use Rattle.theory.proofs.Sides.{xor_same, lone, share_sym, share_refl}
use Rattle.theory.proofs.Plans.{closed_within, closed_strong}
use Rattle.naming.specs.Brackets.{Tree, OfTree, SameBrackets, LoneBracket, Told}
use Rattle.naming.specs.Names.{Shape, Treelike, top_of, SameName}
use Rattle.naming.specs.Built.{shape_of}
use Rattle.naming.specs.Searched.{Searched, base_of}
use Rattle.naming.specs.Crossing.{crossing, Outer, NamesCross}
use Rattle.naming.specs.Words.{Elem}
use Rattle.naming.proofs.Parity.{is_of_tree?, tree_cross, brackets_tell}
use Rattle.naming.proofs.Trees.{sub_self, sub_le}
use Rattle.naming.proofs.Joined.{over_list}
use Rattle.naming.proofs.Searched.{law}
use Rattle.naming.specs.Classes.{Numbered, NameOf, NamesTellClasses, TreeLinksBracketed}
use Rattle.naming.proofs.Crossing.{crossing_bracket, names_cross}

module _ (g : Graph) (sound : Sound g) (P : Searched) (number step link : ℕ → ℕ) (N : Numbered g P number step link) where
  abbrev S : Shape ℕ
  S = shape_of (base_of P)

  tree : Treelike S
  tree = (law P N.upward).tree

  -- the tree over the steps
  abbrev up : ℕ → ℕ
  up v = step (P.parent (number v))

  abbrev above : ℕ → ℕ
  above v = link (number v)

  abbrev sub : ℕ → ℕ → Bool
  sub t v = S.sub (number t) (number v)

  in_size : (v : ℕ) → v < g.steps → number v < P.size
  in_size v l = let n = N.number_below v l in omega (arith, N.size)

  -- a step other than the root has a number above 0, and back
  positive : (v : ℕ) → v < g.steps → v ≢ step 0 → 0 < number v
  positive v l d = let s = N.step_number v l in grind (arith, cases_eq (number v) 0)

  not_root : (k : ℕ) → 0 < k → k < g.steps → step k ≢ step 0
  not_root k p l e = let q = sym (N.number_step k l) ∙ ap number e ∙ N.number_step 0 (omega arith) in omega arith

  parent_below : (v : ℕ) → v < g.steps → v ≢ step 0 → P.parent (number v) < number v
  parent_below v l d = tree.up (number v) (positive v l d) (in_size v l)

  back : (v : ℕ) → v < g.steps → v ≢ step 0 → number (step (P.parent (number v))) ≡ P.parent (number v)
  back v l d = N.number_step (P.parent (number v)) (let a = parent_below v l d in let b = N.number_below v l in omega arith)

  same_step : (v w : ℕ) → v < g.steps → w < g.steps → eqb (number v) (number w) ≡ eqb v w
  same_step v w l m =
      let a = N.step_number v l in
      let b = N.step_number w m in
      grind (arith, nat_tests)

  spans : Tree (closed g) g.steps (step 0) number up above sub
  spans =
      record {
        root_in = N.step_below 0 (let b = sound.begins in omega arith);
        in_graph = λ v l d. N.step_below (P.parent (number v)) (let a = parent_below v l d in let b = N.number_below v l in omega arith);
        up = λ v l d. subst (λ (x : ℕ). x < number v) (sym (back v l d)) (parent_below v l d);
        is_link = λ v l d. N.is_link (number v) (positive v l d) (N.number_below v l);
        joins = λ v l d. ends v (N.step_number v l) (N.joins (number v) (positive v l d) (N.number_below v l));
        apart = λ v w lv dv lw dw e. sym (N.step_number v lv) ∙ ap step (N.apart (number v) (number w) (positive v lv dv) (N.number_below v lv) (positive w lw dw) (N.number_below w lw) e) ∙ N.step_number w lw;
        sub_root = λ t l d. ap (S.sub (number t)) (N.number_step 0 (let b = sound.begins in omega arith)) ∙ tree.sub_zero (number t) ∙ ne_eqb 0 (number t) (λ e. let p = positive t l d in omega arith);
        sub_more = λ t v lt lv d. tree.sub_more (number t) (number v) (positive v lv d) (in_size v lv) ∙ ap₂ ◌||◌ (same_step v t lv lt) (ap (S.sub (number t)) (sym (back v lv d)));
        sub_up = λ t v lt lv l. none t v lv l;
      }
    where
      ends : (v : ℕ) → step (number v) ≡ v →
          ((tail_of (closed g) (above v) ≡ up v) × (head_of (closed g) (above v) ≡ step (number v))) ⊎ ((tail_of (closed g) (above v) ≡ step (number v)) × (head_of (closed g) (above v) ≡ up v)) →
          ((tail_of (closed g) (above v) ≡ up v) × (head_of (closed g) (above v) ≡ v)) ⊎ ((tail_of (closed g) (above v) ≡ v) × (head_of (closed g) (above v) ≡ up v))
      ends v e (inl q) = inl (q.0, q.1 ∙ e)
      ends v e (inr q) = inr (q.0 ∙ e, q.1)

      none : (t v : ℕ) → v < g.steps → number v < number t → S.sub (number t) (number v) ≡ false
      none t v l lt = false_from_ne_true (S.sub (number t) (number v)) (λ e. let le = sub_le S tree (number t) (number v) (in_size v l) e in omega arith)

  told : Told (closed g) g.steps (step 0) above sub
  told = brackets_tell g sound (step 0) number up above sub spans

  -- outside the tree, by numbers and by steps
  outside : (e : ℕ) → Outer P link e → OfTree g.steps (step 0) above e → ⊥
  outside e o t = o (number t.0, in_size t.0 t.1, (λ q. let p = positive t.0 t.1 t.2 in omega arith), t.3)

  outside_back : (e : ℕ) → (OfTree g.steps (step 0) above e → ⊥) → Outer P link e
  outside_back e o t =
      let l : t.0 < g.steps = omega (arith, t.1, N.size) in
      let p : 0 < t.0 = omega (arith, t.2) in
      o (step t.0, N.step_below t.0 l, not_root t.0 p l, ap link (N.number_step t.0 l) ∙ t.3)

  -- crossing the subtree of a step and of its number
  alike :
      (k e : ℕ) → k < g.steps →
      crosses (closed g) (sub (step k)) e ≡ crossing P (λ e. number (tail_of (closed g) e)) (λ e. number (head_of (closed g) e)) k e
  alike k e l = ap (λ (x : ℕ). xor (S.sub x (number (tail_of (closed g) e))) (S.sub x (number (head_of (closed g) e)))) (N.number_step k l)

  -- were the list of k empty, the tree link above k alone would cross the subtree of k
  bracketed : (k : ℕ) → 0 < k → k < g.steps → 0 < length (S.list k)
  bracketed k p l = pick (cases_lt 0 (length (S.list k)))
    where
      empty : {A : Type 0} (x : A) (xs : List A) → length xs ≤ 0 → Elem x xs → ⊥
      empty x [] h m = m
      empty x (y ∷ xs) h m = omega arith

      at_tree : length (S.list k) ≤ 0 → (v : ℕ) → v < g.steps → v ≢ step 0 → above v ≢ link k → crosses (closed g) (sub (step k)) (above v) ≡ false
      at_tree h v lv pv d =
          tree_cross (closed g) g.steps (step 0) number up above sub spans (step k) v (N.step_below k l) lv pv ∙
          ne_eqb v (step k) (λ e. d (ap link (ap number e ∙ N.number_step k l)))

      at_other :
          length (S.list k) ≤ 0 → (e : ℕ) → e < length (closed g) → (OfTree g.steps (step 0) above e → ⊥) →
          crosses (closed g) (sub (step k)) e ≡ false
      at_other h e le o = false_from_ne_true (crosses (closed g) (sub (step k)) e) none
        where
          none : crosses (closed g) (sub (step k)) e ≡ true → ⊥
          none t =
              let ks : k < P.size = omega (arith, N.size) in
              let b =
              crossing_bracket P N.upward (λ e. number (tail_of (closed g) e)) (λ e. number (head_of (closed g) e)) link N.drawn k e ks (omega (arith, N.many))
              (outside_back e o) (sym (alike k e l) ∙ t) in
              empty e (S.list k) h (over_list S (law P N.upward) k e ks b.0)

      only :
          length (S.list k) ≤ 0 → (e : ℕ) → e < length (closed g) → e ≢ link k →
          sub (step k) (tail_of (closed g) e) ≡ sub (step k) (head_of (closed g) e)
      only h e le d = pick (is_of_tree? g.steps (step 0) above e)
        where
          pick :
              OfTree g.steps (step 0) above e ⊎ (OfTree g.steps (step 0) above e → ⊥) →
              sub (step k) (tail_of (closed g) e) ≡ sub (step k) (head_of (closed g) e)
          pick (inl (v, lv, pv, q)) =
              xor_same (sub (step k) (tail_of (closed g) e)) (sub (step k) (head_of (closed g) e))
              (subst (λ (x : ℕ). crosses (closed g) (sub (step k)) x ≡ false) q (at_tree h v lv pv (λ r. d (sym q ∙ r))))
          pick (inr o) = xor_same (sub (step k) (tail_of (closed g) e)) (sub (step k) (head_of (closed g) e)) (at_other h e le o)

      pick : (0 < length (S.list k)) ⊎ (length (S.list k) ≤ 0) → 0 < length (S.list k)
      pick (inl h) = h
      pick (inr h) =
          let ks : k < P.size = omega (arith, N.size) in
          absurd (lone (closed g) g.steps (closed_within g sound) (closed_strong g sound) (sub (step k)) (link k) (only h) (step k) (step 0) (N.step_below k l) (N.step_below 0 (omega arith))
          (ap (λ (x : ℕ). S.sub x x) (N.number_step k l) ∙ sub_self S tree k ks)
          (spans.sub_root (step k) (N.step_below k l) (not_root k p l)))

  module _ (d : ℕ) (name : ℕ → ℕ × ℕ) (names : NameOf P link d name) where
    cross : NamesCross P (λ e. number (tail_of (closed g) e)) (λ e. number (head_of (closed g) e)) link d
    cross = names_cross P (λ e. number (tail_of (closed g) e)) (λ e. number (head_of (closed g) e)) link d N.upward N.drawn

    abbrev top : ℕ → ℕ
    top k = top_of S d k

    abbrev len : ℕ → ℕ
    len k = length (S.list k)

    -- two tree links
    inner : (k j : ℕ) → 0 < k → k < g.steps → 0 < j → j < g.steps → k ≢ j → (Share (closed g) (link k) (link j) ↔ SameName S d k j)
    inner k j pk lk pj lj apart = (
      λ s. c.1 (λ e le o. sym (alike k e lk) ∙ t.0 (moved.0 s) e (omega (arith, N.many)) (outside e o) ∙ alike j e lj),
      λ n. moved.1 (t.1 (λ e le o. alike k e lk ∙ c.0 n e (omega (arith, N.many)) (outside_back e o) ∙ sym (alike j e lj))),
    )
      where
        c :
            SameName S d k j ↔ ((e : ℕ) → e < P.many → Outer P link e → crossing P (λ e. number (tail_of (closed g) e)) (λ e. number (head_of (closed g) e)) k e ≡ crossing P (λ e. number (tail_of (closed g) e)) (λ e. number (head_of (closed g) e)) j e)
        c = cross.inner k j (omega (arith, N.size)) (omega (arith, N.size))

        t : Share (closed g) (above (step k)) (above (step j)) ↔ SameBrackets (closed g) g.steps (step 0) above sub (step k) (step j)
        t = told.inner (step k) (step j) (N.step_below k lk) (not_root k pk lk) (N.step_below j lj) (not_root j pj lj) (λ e. apart (sym (N.number_step k lk) ∙ ap number e ∙ N.number_step j lj))

        moved : Share (closed g) (link k) (link j) ↔ Share (closed g) (above (step k)) (above (step j))
        moved = (
          λ s. subst (λ (x : ℕ). Share (closed g) (link x) (link (number (step j)))) (sym (N.number_step k lk)) (subst (λ (x : ℕ). Share (closed g) (link k) (link x)) (sym (N.number_step j lj)) s),
          λ s. subst (λ (x : ℕ). Share (closed g) (link x) (link j)) (N.number_step k lk) (subst (λ (x : ℕ). Share (closed g) (link (number (step k))) (link x)) (N.number_step j lj) s),
        )

    -- a tree link and another
    mixed : (k b : ℕ) → 0 < k → k < g.steps → b < length (closed g) → Outer P link b → (Share (closed g) (link k) b ↔ ((top k ≡ b) × (len k ≡ 1)))
    mixed k b pk lk lb o = (
      λ s. c.1 (λ e le oe. sym (alike k e lk) ∙ t.0 (subst (λ (x : ℕ). Share (closed g) (link x) b) (sym (N.number_step k lk)) s) e (omega (arith, N.many)) (outside e oe)),
      λ n. subst (λ (x : ℕ). Share (closed g) (link x) b) (N.number_step k lk) (t.1 (λ e le oe. alike k e lk ∙ c.0 n e (omega (arith, N.many)) (outside_back e oe))),
    )
      where
        c :
            ((top_of S d k ≡ b) × (length (S.list k) ≡ 1)) ↔ ((e : ℕ) → e < P.many → Outer P link e → crossing P (λ e. number (tail_of (closed g) e)) (λ e. number (head_of (closed g) e)) k e ≡ eqb e b)
        c = cross.mixed k b (omega (arith, N.size)) (omega (arith, N.many)) o

        t : Share (closed g) (above (step k)) b ↔ LoneBracket (closed g) g.steps (step 0) above sub (step k) b
        t = told.mixed (step k) b (N.step_below k lk) (not_root k pk lk) lb (outside b o)

    tree_tree : (k j : ℕ) → 0 < k → k < g.steps → 0 < j → j < g.steps → Share (closed g) (link k) (link j) ↔ (name (link k) ≡ name (link j))
    tree_tree k j pk lk pj lj =
        let nk = names.tree k pk (omega (arith, N.size)) in
        let nj = names.tree j pj (omega (arith, N.size)) in
        let same = share_refl (closed g) (link k) (link j) in
        let apart = inner k j pk lk pj lj in
        grind (arith, cases_eq k j)

    tree_other : (k b : ℕ) → 0 < k → k < g.steps → b < length (closed g) → Outer P link b → Share (closed g) (link k) b ↔ (name (link k) ≡ name b)
    tree_other k b pk lk lb o =
        let i = mixed k b pk lk lb o in
        let nk = names.tree k pk (omega (arith, N.size)) in
        let nb = names.other b (omega (arith, N.many)) o in
        grind arith

    other_other :
        (a b : ℕ) → a < length (closed g) → b < length (closed g) → Outer P link a → Outer P link b → Share (closed g) a b ↔ (name a ≡ name b)
    other_other a b la lb oa ob =
        let na = names.other a (omega (arith, N.many)) oa in
        let nb = names.other b (omega (arith, N.many)) ob in
        let same = share_refl (closed g) a b in
        let apart : a ≢ b → Share (closed g) a b → ⊥ = λ n. told.outer a b la lb n (outside a oa) (outside b ob) in
        grind (arith, cases_eq a b)

    abbrev InTree : ℕ → Type 0
    InTree e = OfTree P.size 0 link e

    tell :
        (a b : ℕ) → a < length (closed g) → b < length (closed g) → InTree a ⊎ (InTree a → ⊥) → InTree b ⊎ (InTree b → ⊥) →
        Share (closed g) a b ↔ (name a ≡ name b)
    tell a b la lb (inl (k, lk, pk, e)) (inl (j, lj, pj, f)) =
        subst (λ (x : ℕ). Share (closed g) x b ↔ (name x ≡ name b)) e (subst (λ (x : ℕ). Share (closed g) (link k) x ↔ (name (link k) ≡ name x)) f
        (tree_tree k j (omega arith) (omega (arith, N.size)) (omega arith) (omega (arith, N.size))))
    tell a b la lb (inl (k, lk, pk, e)) (inr o) =
        subst (λ (x : ℕ). Share (closed g) x b ↔ (name x ≡ name b)) e (tree_other k b (omega arith) (omega (arith, N.size)) lb o)
    tell a b la lb (inr o) (inl (j, lj, pj, f)) =
        let r : Share (closed g) b a ↔ (name b ≡ name a) = subst (λ (x : ℕ). Share (closed g) x a ↔ (name x ≡ name a)) f (tree_other j a (omega arith) (omega (arith, N.size)) la o) in
        (λ s. sym (r.0 (share_sym (closed g) a b s)), λ e. share_sym (closed g) b a (r.1 (sym e)))
    tell a b la lb (inr o) (inr q) = other_other a b la lb o q

pub names_tell_classes : NamesTellClasses
names_tell_classes g sound P number step link N d name names a b la lb =
    tell g sound P number step link N d name names a b la lb (is_of_tree? P.size 0 link a) (is_of_tree? P.size 0 link b)

pub tree_links_bracketed : TreeLinksBracketed
tree_links_bracketed g sound P number step link N = bracketed g sound P number step link N
