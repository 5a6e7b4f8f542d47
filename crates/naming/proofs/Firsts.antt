-- One link stands for each name.
use Rattle.std.proofs.Common.{◌≡◌, ℕ, zero, suc, ◌<◌, ◌≤◌, cond, ◌&&◌, eqb, ltb, ◌≢◌, ◌⊎◌, ◌↔◌, List, [], ◌∷◌, length, get_or, Some, None, Option, sym, refl, ap, ◌∙◌, subst, inl, inr, arith}
use Rattle.std.proofs.lemmas.Bool.Decides.{nat_tests}
use Rattle.std.proofs.lemmas.Option.{none-some, some_pair_parts}
use Rattle.std.proofs.lemmas.Bool.{cases_eq, cases_lt}
use Rattle.model.specs.Meaning.{Graph, tail_of, head_of}
use Rattle.model.specs.Walks.{closed, Share, Sound}
use Rattle.naming.specs.Words.{Elem}
use Rattle.naming.specs.Names.{Shape, Treelike, Named}
use Rattle.naming.specs.Built.{shape_of}
use Rattle.naming.specs.Brackets.{OfTree}
use Rattle.naming.specs.Searched.{Searched, Upward, base_of}
use Rattle.naming.specs.Crossing.{Outer}
use Rattle.naming.specs.Classes.{Numbered, NameOf, top_at, length_at}
use Rattle.naming.specs.Firsts.{Done, Long, Firsts, Gets, FirstsTurn, FirstsStand}
use Rattle.naming.proofs.Lists.{keep_length}
use Rattle.naming.proofs.Parity.{is_of_tree?}
use Rattle.naming.proofs.Trees.{sub_chain}
use Rattle.naming.proofs.Searched.{searched_stands, law}
use Rattle.naming.proofs.Crossing.{outer_bracket}
use Rattle.naming.proofs.Classes.{names_tell_classes, tree_links_bracketed}

begins : (xs : List ℕ) → 1 ≤ length xs → (ys : List ℕ) × (xs ≡ get_or xs 0 0 ∷ ys)
begins [] h = absurd (omega arith)
begins (x ∷ xs) h = (xs, refl)

-- with the same top, the list of the smaller number is no longer
module _ (P : Searched) (good : Upward P) where
  abbrev S : Shape ℕ
  S = shape_of (base_of P)

  all : Named ℕ S 0
  all = (searched_stands P good 0).1

  tree : Treelike S
  tree = (law P good).tree

  shorter : (v i : ℕ) → v ≤ i → i < P.size → 1 ≤ length_at P v → 1 ≤ length_at P i → top_at P v ≡ top_at P i → length_at P v ≤ length_at P i
  shorter v i le l nv ni same =
      let bv = begins (S.list v) nv in
      let bi = begins (S.list i) ni in
      let x : ℕ = top_at P v in
      let ov = (all.holds v x (omega arith)).0 (subst (λ xs. Elem x xs) (sym bv.1) (inl refl)) in
      let oi = (all.holds i x l).0 (subst (λ xs. Elem x xs) (sym bi.1) (inl same)) in
      let up = sub_chain S tree v i (S.src x) ov.within ov.below oi.below le in
      let e = all.front v i x bv.0 (omega arith) l up bv.1 oi.below in
      let n = ap length e in
      let k = keep_length (λ y. ltb (S.dst y) v) (S.list i) in
      omega arith

module _ (P : Searched) (link : ℕ → ℕ) (good : Upward P) (apart : (i j : ℕ) → 0 < i → i < P.size → 0 < j → j < P.size → link i ≡ link j → i ≡ j) where
  abbrev top : ℕ → ℕ
  top = top_at P

  abbrev len : ℕ → ℕ
  len = length_at P

  start :
      (first : ℕ → ℕ) (latest : ℕ → Option (ℕ × ℕ)) → ((e : ℕ) → e < P.many → first e ≡ e) → ((x : ℕ) → latest x ≡ None) →
      Firsts P link P.size first latest
  start first latest own bare =
      record {
        other = λ e l _. own e l;
        lone = λ j d _. absurd (over j d);
        named = λ j d. absurd (over j d.0);
        alike = λ i j d _ _ _. absurd (over i d.0);
        none = λ x _ j d _. over j d.0;
        some = λ x l f e. absurd (none-some _ (sym (bare x) ∙ e));
      }
    where
      over : (j : ℕ) → Done P link P.size j → ⊥
      over j d = omega (arith, d.1, d.2)

  module _ (v : ℕ) (pv : 0 < v) (lv : v < P.size) (first first' : ℕ → ℕ) (latest latest' : ℕ → Option (ℕ × ℕ)) (F : Firsts P link (suc v) first latest)
      (f : ℕ) (gets : Gets P link first v f first') where
    older : (j : ℕ) → Done P link v j → j ≢ v → Done P link (suc v) j
    older j d n = (d.0, omega (arith, d.1), d.2)

    wider : (j : ℕ) → Done P link (suc v) j → Done P link v j
    wider j d = (d.0, omega (arith, d.1), d.2)

    keeps : (j : ℕ) → Done P link (suc v) j → first' (link j) ≡ first (link j)
    keeps j d = gets.1 (link j) (λ e. let q = apart j v d.0 d.2 pv lv e in omega (arith, d.1))

    at_v : (j : ℕ) → j ≡ v → first' (link j) ≡ f
    at_v j e = ap (λ (i : ℕ). first' (link i)) e ∙ gets.0

    other : (e : ℕ) → e < P.many → Outer P link e → first' e ≡ e
    other e l o = gets.1 e (λ q. o (v, lv, (λ z. absurd (omega arith)), sym q)) ∙ F.other e l o

    lone_old : (j : ℕ) → Done P link v j → len j ≡ 1 → j ≢ v → first' (link j) ≡ top j
    lone_old j d h n = let o = older j d n in keeps j o ∙ F.lone j o h

    abbrev NamedBy : ℕ → Type 0
    NamedBy j = (i : ℕ) × Done P link v i × (top i ≡ top j) × (len i ≡ len j) × (first' (link j) ≡ link i)

    named_old : (j : ℕ) → Long P link v j → j ≢ v → NamedBy j
    named_old j d n =
        let o = older j d.0 n in
        let r = F.named j (o, d.1) in
        (r.0, wider r.0 r.1, r.2, r.3, keeps j o ∙ r.4)

    alike_old : (i j : ℕ) → Long P link v i → Long P link v j → i ≢ v → j ≢ v → top i ≡ top j → len i ≡ len j → first' (link i) ≡ first' (link j)
    alike_old i j di dj ni nj t n =
        let oi = older i di.0 ni in
        let oj = older j dj.0 nj in
        keeps i oi ∙ F.alike i j (oi, di.1) (oj, dj.1) t n ∙ sym (keeps j oj)

    none_old : (x : ℕ) → latest x ≡ None → (j : ℕ) → Long P link v j → j ≢ v → top j ≡ x → ⊥
    none_old x e j d n = F.none x e j (older j d.0 n, d.1)

    abbrev SomeBy : ℕ → ℕ → ℕ → Type 0
    SomeBy x l g = (i : ℕ) × Long P link v i × (top i ≡ x) × (len i ≡ l) × (first' (link i) ≡ g)

    some_old : (x l g : ℕ) → latest x ≡ Some (l, g) → SomeBy x l g
    some_old x l g e =
        let r = (F.some x l g e).0 in
        (r.0, (wider r.0 r.1.0, r.1.1), r.2, r.3, keeps r.0 r.1.0 ∙ r.4)

    least_old : (x l g : ℕ) → latest x ≡ Some (l, g) → (j : ℕ) → Long P link v j → j ≢ v → top j ≡ x → l ≤ len j
    least_old x l g e j d n = (F.some x l g e).1 j (older j d.0 n, d.1)

    -- a list of one bracket
    single_turn : len v ≡ 1 → f ≡ top v → Firsts P link v first' latest
    single_turn h is =
        record {
          other = other;
          lone = lone;
          named = λ j d. named_old j d (not_v j d);
          alike = λ i j di dj. alike_old i j di dj (not_v i di) (not_v j dj);
          none = λ x e j d. none_old x e j d (not_v j d);
          some = λ x l g e. (some_old x l g e, λ j d. least_old x l g e j d (not_v j d));
        }
      where
        not_v : (j : ℕ) → Long P link v j → j ≢ v
        not_v j d e = let q = ap len e in omega (arith, d.1)

        lone : (j : ℕ) → Done P link v j → len j ≡ 1 → first' (link j) ≡ top j
        lone j d n =
            let here = at_v j in
            let old = lone_old j d n in
            grind (arith, cases_eq j v)

    lone_long : 2 ≤ len v → (j : ℕ) → Done P link v j → len j ≡ 1 → first' (link j) ≡ top j
    lone_long h j d n = lone_old j d n (λ e. let q = ap len e in absurd (omega arith))

    -- the name of the latest list of its top
    again_turn : 2 ≤ len v → latest (top v) ≡ Some (len v, f) → Firsts P link v first' latest
    again_turn h met =
        record {
          other = other;
          lone = lone_long h;
          named = λ j d. named j d (cases_eq j v);
          alike = alike;
          none = none;
          some = λ x l g e. (some_old x l g e, least x l g e);
        }
      where
        before : (i : ℕ) × Long P link (suc v) i × (top i ≡ top v) × (len i ≡ len v) × (first (link i) ≡ f)
        before = (F.some (top v) (len v) f met).0

        named : (j : ℕ) → Long P link v j → (j ≡ v) ⊎ (j ≡ v → ⊥) → NamedBy j
        named j d (inl e) =
            let b = before in
            let r = F.named b.0 b.1 in
            (r.0, wider r.0 r.1, r.2 ∙ b.2 ∙ ap top (sym e), r.3 ∙ b.3 ∙ ap len (sym e), at_v j e ∙ sym b.4 ∙ r.4)
        named j d (inr n) = named_old j d n

        -- v and another
        with_v : (j : ℕ) → Long P link v j → j ≢ v → top j ≡ top v → len j ≡ len v → f ≡ first' (link j)
        with_v j d n t l =
            let b = before in
            let o = older j d.0 n in
            sym b.4 ∙ F.alike b.0 j b.1 (o, d.1) (b.2 ∙ sym t) (b.3 ∙ sym l) ∙ sym (keeps j o)

        alike : (i j : ℕ) → Long P link v i → Long P link v j → top i ≡ top j → len i ≡ len j → first' (link i) ≡ first' (link j)
        alike i j di dj t n =
            let i_v = at_v i in
            let j_v = at_v j in
            let v_j = with_v j dj in
            let v_i = with_v i di in
            let old = alike_old i j di dj in
            grind (arith, cases_eq i v, cases_eq j v)

        none : (x : ℕ) → latest x ≡ None → (j : ℕ) → Long P link v j → top j ≡ x → ⊥
        none x e j d t = let old = none_old x e j d in grind (arith, cases_eq j v)

        least : (x l g : ℕ) → latest x ≡ Some (l, g) → (j : ℕ) → Long P link v j → top j ≡ x → l ≤ len j
        least x l g e j d t = let old = least_old x l g e j d in grind (arith, cases_eq j v)

    -- a name that was not there
    new_turn : 2 ≤ len v → ((g : ℕ) → latest (top v) ≡ Some (len v, g) → ⊥) → f ≡ link v →
        latest' (top v) ≡ Some (len v, link v) → ((x : ℕ) → x ≢ top v → latest' x ≡ latest x) → Firsts P link v first' latest'
    new_turn h fresh is here rest =
        record {
          other = other;
          lone = lone_long h;
          named = λ j d. named j d (cases_eq j v);
          alike = alike;
          none = none;
          some = λ x l g e. some x l g e (cases_eq x (top v));
        }
      where
        done_v : Done P link v v
        done_v = (pv, omega arith, lv)

        named : (j : ℕ) → Long P link v j → (j ≡ v) ⊎ (j ≡ v → ⊥) → NamedBy j
        named j d (inl e) = (v, done_v, ap top (sym e), ap len (sym e), at_v j e ∙ is)
        named j d (inr n) = named_old j d n

        -- no earlier number has the name
        unmet : (j : ℕ) → Long P link v j → j ≢ v → top j ≡ top v → len j ≡ len v → (o : Option (ℕ × ℕ)) → latest (top v) ≡ o → ⊥
        unmet j d n t l None e = none_old (top v) e j d n t
        unmet j d n t l (Some (m, g)) e =
            let s = some_old (top v) m g e in
            let lo = least_old (top v) m g e j d n t in
            let up = shorter P good v s.0 s.1.0.1 s.1.0.2 (omega arith) (omega (arith, s.1.1)) (sym s.2) in
            let q : m ≡ len v = omega (arith, s.3) in
            fresh g (e ∙ ap (λ (i : ℕ). Some (i, g)) q)

        alike : (i j : ℕ) → Long P link v i → Long P link v j → top i ≡ top j → len i ≡ len j → first' (link i) ≡ first' (link j)
        alike i j di dj t n =
            let i_v = at_v i in
            let j_v = at_v j in
            let no_i : i ≢ v → top i ≡ top v → len i ≡ len v → ⊥ = λ ni q l. unmet i di ni q l (latest (top v)) refl in
            let no_j : j ≢ v → top j ≡ top v → len j ≡ len v → ⊥ = λ nj q l. unmet j dj nj q l (latest (top v)) refl in
            let old = alike_old i j di dj in
            grind (arith, cases_eq i v, cases_eq j v)

        none : (x : ℕ) → latest' x ≡ None → (j : ℕ) → Long P link v j → top j ≡ x → ⊥
        none x e j d t =
            let same = rest x in
            let old : latest x ≡ None → j ≢ v → top j ≡ x → ⊥ = λ q. none_old x q j d in
            grind (arith, cases_eq x (top v), cases_eq j v)

        least : (x l g : ℕ) → x ≢ top v → latest x ≡ Some (l, g) → (j : ℕ) → Long P link v j → top j ≡ x → l ≤ len j
        least x l g n e j d t = let old = least_old x l g e j d in grind (arith, cases_eq j v)

        some :
            (x l g : ℕ) → latest' x ≡ Some (l, g) → (x ≡ top v) ⊎ (x ≡ top v → ⊥) → SomeBy x l g × ((j : ℕ) → Long P link v j → top j ≡ x → l ≤ len j)
        some x l g e (inl q) =
            let r = some_pair_parts _ _ _ _ (sym (ap latest' (sym q) ∙ e) ∙ here) in (
              (v, (done_v, h), sym q, sym r.0, gets.0 ∙ is ∙ sym r.1),
              λ j d t. let k = shorter P good v j d.0.1 d.0.2 (omega arith) (omega (arith, d.1)) (sym q ∙ sym t) in omega (arith, r.0),
            )
        some x l g e (inr n) = let old = sym (rest x n) ∙ e in (some_old x l g old, least x l g n old)

  pub turn : FirstsTurn P link
  turn =
      record {
        start = start;
        single = λ v pv lv first first' latest F h gets. single_turn v pv lv first first' latest latest F (top v) gets h refl;
        again = λ v f pv lv first first' latest F h met gets. again_turn v pv lv first first' latest latest F f gets h met;
        new = λ v pv lv first first' latest latest' F h fresh gets here rest. new_turn v pv lv first first' latest latest' F (link v) gets h fresh refl here rest;
      }

module _ (g : Graph) (sound : Sound g) (P : Searched) (number step link : ℕ → ℕ) (N : Numbered g P number step link) where
  -- the name of each link, by the numbers below m
  name_by : ℕ → ℕ → ℕ × ℕ
  name_by zero e = (e, 1)
  name_by (suc k) e = cond (ltb 0 k && eqb (link k) e) (top_at P k, length_at P k) (name_by k e)

  in_plan : (k : ℕ) → k < P.size → k < g.steps
  in_plan k l = omega (arith, N.size)

  of_tree : (m k : ℕ) → 0 < k → k < m → m ≤ P.size → name_by m (link k) ≡ (top_at P k, length_at P k)
  unfolding name_by
  of_tree zero k p l h = absurd (omega arith)
  of_tree (suc m) k p l h =
      let next = of_tree m k p in
      let only : 0 < m → link m ≡ link k → m ≡ k = λ q. N.apart m k q (in_plan m (omega arith)) p (in_plan k (omega arith)) in
      grind (arith, nat_tests, cases_eq m k)

  outer : (m e : ℕ) → m ≤ P.size → Outer P link e → name_by m e ≡ (e, 1)
  unfolding name_by
  outer zero e h o = refl
  outer (suc m) e h o =
      let next = outer m e (omega arith) o in
      let none : 0 < m → link m ≢ e = λ q r. o (m, omega arith, (λ z. absurd (omega arith)), r) in
      grind (arith, nat_tests)

  named : NameOf P link 0 (name_by P.size)
  named = record { tree = λ k p l. of_tree P.size k p l (omega arith); other = λ e l o. outer P.size e (omega arith) o }

  module _ (first : ℕ → ℕ) (latest : ℕ → Option (ℕ × ℕ)) (F : Firsts P link 1 first latest) where
    abbrev InTree : ℕ → Type 0
    InTree e = OfTree P.size 0 link e

    done : (j : ℕ) → j < P.size → j ≢ 0 → Done P link 1 j
    done j l n = (omega arith, omega arith, l)

    -- a list has one bracket or more
    sized : (j : ℕ) → j < P.size → j ≢ 0 → (length_at P j ≡ 1) ⊎ (2 ≤ length_at P j)
    sized j l n = let b = tree_links_bracketed g sound P number step link N j (omega arith) (in_plan j l) in grind (arith, cases_lt 1 (length_at P j))

    -- the one bracket is outside the tree
    lone_outer : (j : ℕ) → j < P.size → length_at P j ≡ 1 → (top_at P j < P.many) × Outer P link (top_at P j)
    lone_outer j l h =
        let all = (searched_stands P N.upward 0).1 in
        outer_bracket P N.upward (λ e. number (tail_of (closed g) e)) (λ e. number (head_of (closed g) e)) link N.drawn j (top_at P j)
        (((all.lone j (top_at P j) l).0 (refl, h) (top_at P j)).1 refl)

    -- what stands for a link has its name
    stands : (a : ℕ) → a < P.many → InTree a ⊎ (InTree a → ⊥) → name_by P.size (first a) ≡ name_by P.size a
    stands a la (inr o) = ap (name_by P.size) (F.other a la o)
    stands a la (inl (j, lj, nj, e)) = subst (λ (x : ℕ). name_by P.size (first x) ≡ name_by P.size x) e (at (sized j lj nj))
      where
        own : name_by P.size (link j) ≡ (top_at P j, length_at P j)
        own = named.tree j (omega arith) lj

        at : (length_at P j ≡ 1) ⊎ (2 ≤ length_at P j) → name_by P.size (first (link j)) ≡ name_by P.size (link j)
        at (inl h) =
            let b = lone_outer j lj h in
            let name = named.other (top_at P j) b.0 b.1 in
            ap (name_by P.size) (F.lone j (done j lj nj) h) ∙ cc (name, own)
        at (inr h) =
            let r = F.named j (done j lj nj, h) in
            let name = named.tree r.0 r.1.0 r.1.2 in
            ap (name_by P.size) r.4 ∙ cc (name, own)

    -- equal names, the same link
    tree_other : (j b : ℕ) → j < P.size → j ≢ 0 → b < P.many → Outer P link b → name_by P.size (link j) ≡ name_by P.size b → first (link j) ≡ first b
    tree_other j b lj nj lb o e =
        let q = sym (named.tree j (omega arith) lj) ∙ e ∙ named.other b lb o in
        F.lone j (done j lj nj) (ap (λ (z : ℕ × ℕ). z.1) q) ∙ ap (λ (z : ℕ × ℕ). z.0) q ∙ sym (F.other b lb o)

    equal :
        (a b : ℕ) → a < P.many → b < P.many → InTree a ⊎ (InTree a → ⊥) → InTree b ⊎ (InTree b → ⊥) → name_by P.size a ≡ name_by P.size b →
        first a ≡ first b
    equal a b la lb (inr o) (inr q) e =
        let r = sym (named.other a la o) ∙ e ∙ named.other b lb q in ap first (ap (λ (z : ℕ × ℕ). z.0) r)
    equal a b la lb (inl (j, lj, nj, r)) (inr o) e =
        ap first (sym r) ∙ tree_other j b lj nj lb o (ap (name_by P.size) r ∙ e)
    equal a b la lb (inr o) (inl (j, lj, nj, r)) e =
        sym (tree_other j a lj nj la o (ap (name_by P.size) r ∙ sym e)) ∙ ap first r
    equal a b la lb (inl (j, lj, nj, r)) (inl (i, li, ni, s)) e = ap first (sym r) ∙ at (sized j lj nj) ∙ ap first s
      where
        q : ◌≡◌ {A = ℕ × ℕ} (top_at P j, length_at P j) (top_at P i, length_at P i)
        q = sym (named.tree j (omega arith) lj) ∙ ap (name_by P.size) r ∙ e ∙ sym (ap (name_by P.size) s) ∙ named.tree i (omega arith) li

        same_top : top_at P j ≡ top_at P i
        same_top = ap (λ (z : ℕ × ℕ). z.0) q

        same_length : length_at P j ≡ length_at P i
        same_length = ap (λ (z : ℕ × ℕ). z.1) q

        at : (length_at P j ≡ 1) ⊎ (2 ≤ length_at P j) → first (link j) ≡ first (link i)
        at (inl h) = F.lone j (done j lj nj) h ∙ same_top ∙ sym (F.lone i (done i li ni) (sym same_length ∙ h))
        at (inr h) = F.alike j i (done j lj nj, h) (done i li ni, let n = same_length in omega arith) same_top same_length

    told : (a b : ℕ) → a < length (closed g) → b < length (closed g) → (Share (closed g) a b ↔ (first a ≡ first b))
    told a b la lb =
        let ma : a < P.many = omega (arith, N.many) in
        let mb : b < P.many = omega (arith, N.many) in
        let ta = is_of_tree? P.size 0 link a in
        let tb = is_of_tree? P.size 0 link b in
        let t = names_tell_classes g sound P number step link N 0 (name_by P.size) named a b la lb in
        (λ s. equal a b ma mb ta tb (t.0 s), λ e. t.1 (sym (stands a ma ta) ∙ ap (name_by P.size) e ∙ stands b mb tb))

pub firsts_stand : FirstsStand
firsts_stand = record { turn = turn; told = told }
