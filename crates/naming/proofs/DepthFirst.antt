-- The back links of a depth-first tree go up to an ancestor, and all links outside the tree are back links or have equal ends.
use Rattle.std.proofs.Common.{◌≡◌, ℕ, zero, suc, ◌<◌, ◌≤◌, Bool, true, false, not, ◌&&◌, eqb, ltb, ◌≢◌, ◌⊎◌, List, [], ◌∷◌, length, Decides, sym, refl, ap, ◌∙◌, subst, inl, inr, arith}
use Rattle.std.proofs.lemmas.Bool.{cases_eq, cases_Bool, both_ways, and_parts, and_from, not-true, not_from_false, eqb-true, eqb-false, eq-eqb, ne_eqb, cond-true, cond-false, false_from_ne_true}
use Rattle.std.proofs.lemmas.Bool.Decides.{Decides-below_or, Decides-and, Decides-ltb, Decides-eqb, nat_tests}
use Rattle.model.specs.Meaning.{tail_of, head_of, EndsBelow}
use Rattle.model.specs.Walks.{Links, closed}
use Rattle.naming.specs.Words.{Elem, Once}
use Rattle.naming.specs.Built.{sub_at}
use Rattle.naming.specs.Searched.{Searched, Upward}
use Rattle.naming.specs.Crossing.{Outer, Drawn}
use Rattle.naming.specs.DepthFirst.{Below, DepthFirst, of_tree, from_end, is_back, back_links, searched, DepthFirstNumbered}

-- the test tells the links of the tree
pub tree_told : (link : ℕ → ℕ) (n e : ℕ) → Decides (of_tree link n e) ((k : ℕ) × (k < n) × ((0 < k) × (link k ≡ e)))
unfolding of_tree
tree_told link n e =
    Decides-below_or (λ k. ltb 0 k && eqb (link k) e) (λ k. (0 < k) × (link k ≡ e)) (λ k. of_tree link k e)
    (λ k. Decides-and (ltb 0 k) (eqb (link k) e) (Decides-ltb 0 k) (Decides-eqb (link k) e)) refl (λ _. refl) n

below_le : (parent : ℕ → ℕ) (n : ℕ) → ((k : ℕ) → 0 < k → k < n → parent k < k) → (m t v : ℕ) → v < n → sub_at parent m t v ≡ true → t ≤ v
unfolding sub_at
below_le parent n up zero t v l e = absurd (both_ways false refl e)
below_le parent n up (suc m) t v l e =
    let next = below_le parent n up m t (parent v) in
    let u = up v in
    grind (arith, nat_tests)

module _ (G : Links) (n : ℕ) (number link : ℕ → ℕ) where
  abbrev L : ℕ → ℕ → List ℕ
  L = back_links G n number link

  abbrev starts : ℕ → ℕ → Bool
  starts e k = is_back G n number link e && eqb (from_end G n number link e) k

  pub links_none : (k : ℕ) → L zero k ≡ []
  unfolding back_links
  links_none k = refl

  pub links_yes : (m k : ℕ) → starts m k ≡ true → L (suc m) k ≡ m ∷ L m k
  unfolding back_links
  links_yes m k t = cond-true (starts m k) (m ∷ L m k) (L m k) t

  pub links_no : (m k : ℕ) → starts m k ≡ false → L (suc m) k ≡ L m k
  unfolding back_links
  links_no m k t = cond-false (starts m k) (m ∷ L m k) (L m k) t

  pub links_in : (m k x : ℕ) → Elem x (L m k) → (x < m) × (starts x k ≡ true)
  unfolding back_links
  links_in zero k x e = absurd e
  links_in (suc m) k x e = grind (arith, links_in m k x, cases_Bool (starts m k))

  pub in_links : (m k x : ℕ) → x < m → starts x k ≡ true → Elem x (L m k)
  unfolding back_links
  in_links zero k x l t = absurd (omega arith)
  in_links (suc m) k x l t = grind (arith, in_links m k x, cases_eq x m, cases_Bool (starts m k))

  pub links_once : (m k : ℕ) → Once (L m k)
  unfolding back_links
  links_once zero k = tt
  links_once (suc m) k = grind (arith, links_once m k, links_in m k m, cases_Bool (starts m k))

module _ (G : Links) (n : ℕ) (within : EndsBelow n G) (number step parent link : ℕ → ℕ) (T : DepthFirst G n number step parent link) where
  abbrev P : Searched
  P = searched G n number parent link

  abbrev tail : ℕ → ℕ
  tail e = number (tail_of G e)

  abbrev head : ℕ → ℕ
  head e = number (head_of G e)

  in_tree : (e k : ℕ) → k < n → k ≢ 0 → link k ≡ e → of_tree link n e ≡ true
  in_tree e k l p q = (tree_told link n e).1 (k, l, (omega arith, q))

  outer_test : (e : ℕ) → Outer P link e → of_tree link n e ≡ false
  outer_test e o =
      false_from_ne_true (of_tree link n e) (λ t.
      let r = (tree_told link n e).0 t in
      o (r.0, r.1, (λ z. let p = r.2.0 in omega (arith, p)), r.2.1))

  -- what a back link is
  pub back_parts : (e : ℕ) → is_back G n number link e ≡ true → (of_tree link n e ≡ false) × (tail e ≢ head e)
  back_parts e t =
      let r = and_parts (not (of_tree link n e)) (not (eqb (tail e) (head e))) t in
      (not-true (of_tree link n e) r.0, eqb-false (tail e) (head e) (not-true (eqb (tail e) (head e)) r.1))

  -- it goes from an end to a proper ancestor of it
  pub goes_up : (e : ℕ) → e < length G → tail e ≢ head e → (P.to e < P.from e) × (P.from e < n) × Below parent (P.to e) (P.from e)
  goes_up e l d =
      let w = within e l in
      let t = T.number_below (tail_of G e) w.0 in
      let h = T.number_below (head_of G e) w.1 in
      (omega arith, omega arith, pick t h (T.near e l))
    where
      pick : tail e < n → head e < n → Below parent (tail e) (head e) ⊎ Below parent (head e) (tail e) → Below parent (P.to e) (P.from e)
      pick t h (inl b) =
          let le = below_le parent n T.up (suc (head e)) (tail e) (head e) h b in
          let f : P.from e ≡ head e = omega arith in
          let o : P.to e ≡ tail e = omega arith in
          rw (f, o) b
      pick t h (inr b) =
          let le = below_le parent n T.up (suc (tail e)) (head e) (tail e) t b in
          let f : P.from e ≡ tail e = omega arith in
          let o : P.to e ≡ head e = omega arith in
          rw (f, o) b

  pub upward : Upward P
  upward =
      record {
        up = T.up;
        once = λ k l. links_once G n number link (length G) k;
        link = λ k x l m.
            let i = links_in G n number link (length G) k x m in
            let s = and_parts (is_back G n number link x) (eqb (P.from x) k) i.1 in
            let f = eqb-true (P.from x) k s.1 in
            let u = goes_up x i.0 (back_parts x s.0).1 in
            (i.0, f, omega (arith, u.0), subst (λ (j : ℕ). Below parent (P.to x) j) f u.2);
      }

  drawn : Drawn P tail head link
  drawn = record { each = each; outer = outer; ends = λ k x l m. ends x (cases_eq (P.from x) (tail x)) }
    where
      each : (e : ℕ) → e < length G → Outer P link e → (tail e ≡ head e) ⊎ ((P.from e < n) × Elem e (P.links (P.from e)))
      each e l o = pick (cases_eq (tail e) (head e))
        where
          pick : (tail e ≡ head e) ⊎ (tail e ≡ head e → ⊥) → (tail e ≡ head e) ⊎ ((P.from e < n) × Elem e (P.links (P.from e)))
          pick (inl q) = inl q
          pick (inr d) =
              let back = and_from (not (of_tree link n e)) (not (eqb (tail e) (head e))) (not_from_false (of_tree link n e) (outer_test e o)) (not_from_false (eqb (tail e) (head e)) (ne_eqb (tail e) (head e) d)) in
              inr ((goes_up e l d).1, in_links G n number link (length G) (P.from e) e l (and_from (is_back G n number link e) (eqb (P.from e) (P.from e)) back (eq-eqb (P.from e) (P.from e) refl)))

      outer : (k x : ℕ) → k < n → Elem x (P.links k) → Outer P link x
      outer k x l m t =
          let i = links_in G n number link (length G) k x m in
          let s = and_parts (is_back G n number link x) (eqb (P.from x) k) i.1 in
          both_ways (of_tree link n x) (back_parts x s.0).0 (in_tree x t.0 t.1 t.2 t.3)

      ends :
          (x : ℕ) → (P.from x ≡ tail x) ⊎ (P.from x ≡ tail x → ⊥) → ((tail x ≡ P.from x) × (head x ≡ P.to x)) ⊎
          ((tail x ≡ P.to x) × (head x ≡ P.from x))
      ends x (inl e) = inl (sym e, omega arith)
      ends x (inr d) = inr (omega arith, omega arith)

  -- a link is above one number only: of the two that it joins, the larger
  above : (k : ℕ) → 0 < k → k < n → P.from (link k) ≡ k
  above k p l = pick (T.joins k p l)
    where
      pick :
          ((tail_of G (link k) ≡ step (parent k)) × (head_of G (link k) ≡ step k)) ⊎
          ((tail_of G (link k) ≡ step k) × (head_of G (link k) ≡ step (parent k))) → P.from (link k) ≡ k
      pick (inl e) =
          let u = T.up k p l in
          let a = ap number e.0 ∙ T.number_step (parent k) (omega arith) in
          let b = ap number e.1 ∙ T.number_step k l in
          omega arith
      pick (inr e) =
          let u = T.up k p l in
          let a = ap number e.0 ∙ T.number_step k l in
          let b = ap number e.1 ∙ T.number_step (parent k) (omega arith) in
          omega arith

  pub apart : (j k : ℕ) → 0 < j → j < n → 0 < k → k < n → link j ≡ link k → j ≡ k
  apart j k pj lj pk lk e = sym (above j pj lj) ∙ ap P.from e ∙ above k pk lk

pub depth_first_numbered : DepthFirstNumbered
depth_first_numbered g within number step parent link T =
    record {
      size = refl;
      many = refl;
      number_below = T.number_below;
      step_below = T.step_below;
      number_step = T.number_step;
      step_number = T.step_number;
      is_link = T.is_link;
      joins = T.joins;
      apart = apart (closed g) g.steps within number step parent link T;
      upward = upward (closed g) g.steps within number step parent link T;
      drawn = drawn (closed g) g.steps within number step parent link T;
    }
