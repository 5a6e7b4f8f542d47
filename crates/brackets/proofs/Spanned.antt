-- The search of a closed plan is within bounds, and that of a sound plan is as the method asks.
use Rattle.std.proofs.Common.{◌≡◌, ℕ, zero, suc, ◌<◌, ◌≤◌, true, ltb, eqb, ◌&&◌, ◌⊎◌, ◌↔◌, List, length, get_or, Some, None, Option, vec_items, sym, refl, ap, ◌∙◌, subst, inl, inr, arith}
use Rattle.std.proofs.lemmas.Bool.{or_left, or_right, and_from, eq-eqb, lt-ltb}
use Rattle.std.proofs.lemmas.List.{length-map}
use Rattle.std.proofs.lemmas.Option.{none-some}
use Rattle.std.specs.Option.{unwrap_or}
use Rattle.model.specs.Meaning.{Graph, EndsBelow, tail_of, head_of, pair_of}
use Rattle.model.specs.Walks.{Links, closed, Sound}
use Rattle.plan.specs.declared.graphs.Graph.{Graph as Copy}
use Rattle.plan.specs.Copied.{graph_of}
use Rattle.search.specs.declared.trees.Visit.{Visit}
use Rattle.search.specs.Joined.{Joins}
use Rattle.search.specs.Spans.{Anc, par_of, step_of, link_of, Spans}
use Rattle.search.proofs.Ancestry.{anc_below, anc_root}
use Rattle.search.proofs.Closing.{more, closed_below}
use Rattle.naming.specs.Built.{sub_at}
use Rattle.naming.specs.Classes.{length_at}
use Rattle.naming.specs.DepthFirst.{Below, DepthFirst, searched}
use Rattle.naming.proofs.Classes.{tree_links_bracketed}
use Rattle.naming.proofs.DepthFirst.{depth_first_numbered}
use Rattle.brackets.specs.declared.spanning.Spanning.{Spanning}
use Rattle.brackets.specs.Method.{links_of, visits_of, numbers_of, size_of, number_of, Bounded, Whole}

-- where one end of a link has no number, the other has none
other_end : (ns : List (Option ℕ)) (u v : ℕ) → ((i : ℕ) → get_or ns u None ≡ Some i → (j : ℕ) × (get_or ns v None ≡ Some j)) → get_or ns v None ≡ None → get_or ns u None ≡ None
other_end ns u v closed e = pick (get_or ns u None) refl
  where
    pick : (o : Option ℕ) → get_or ns u None ≡ o → get_or ns u None ≡ None
    pick None q = q
    pick (Some i) q = let k = closed i q in absurd (none-some k.0 (sym e ∙ k.1))

-- going up m times finds each ancestor, if the number is m at most
found_above : (par : ℕ → ℕ) (n : ℕ) → par 0 ≡ 0 → ((k : ℕ) → 0 < k → k < n → par k < k) → (m a v : ℕ) → v ≤ m → v < n → Anc par a v → sub_at par (suc m) a v ≡ true
unfolding sub_at
found_above par n z up m a zero le lt h =
    or_left (eqb 0 a) (ltb 0 0 && sub_at par m a (par 0)) (eq-eqb 0 a (sym (anc_root par z a h)))
found_above par n z up zero a (suc v) le lt h = absurd (omega arith)
found_above par n z up (suc m) a (suc v) le lt h =
    let u = up (suc v) (omega arith) lt in
    pick (anc_below par a (suc v) h) (found_above par n z up m a (par (suc v)) (omega arith) (omega arith))
  where
    pick : (a ≡ suc v) ⊎ Anc par a (par (suc v)) → (Anc par a (par (suc v)) → sub_at par (suc m) a (par (suc v)) ≡ true) → sub_at par (suc (suc m)) a (suc v) ≡ true
    pick (inl e) next = or_left (eqb (suc v) a) (ltb 0 (suc v) && sub_at par (suc m) a (par (suc v))) (eq-eqb (suc v) a (sym e))
    pick (inr g) next =
        or_right (eqb (suc v) a) (ltb 0 (suc v) && sub_at par (suc m) a (par (suc v)))
        (and_from (ltb 0 (suc v)) (sub_at par (suc m) a (par (suc v))) (lt-ltb 0 (suc v) (omega arith)) (next g))

module _ (G : Links) (n root : ℕ) (ns : List (Option ℕ)) (vs : List Visit) (S : Spans G n root ns vs) where
  abbrev number : ℕ → ℕ
  number v = unwrap_or (get_or ns v None) 0

  both : (l : ℕ) → l < length G → (get_or ns (tail_of G l) None ≡ None) ↔ (get_or ns (head_of G l) None ≡ None)
  both l lt = (
    other_end ns (head_of G l) (tail_of G l) (λ i. S.closed l (head_of G l) (tail_of G l) i (lt, inr (refl, refl))),
    other_end ns (tail_of G l) (head_of G l) (λ i. S.closed l (tail_of G l) (head_of G l) i (lt, inl (refl, refl))),
  )

  number_at : (v k : ℕ) → get_or ns v None ≡ Some k → number v ≡ k
  number_at v k e = ap (λ (o : Option ℕ). unwrap_or o 0) e

  -- every step has a number
  numbered : length vs ≡ n → (v : ℕ) → v < n → (number v < n) × (get_or ns v None ≡ Some (number v))
  numbered w v lt =
      let r = S.numbered w v lt in
      let e = number_at v r.0 r.2 in
      (omega (arith, r.1), r.2 ∙ ap Some (sym e))

  tree : length vs ≡ n → EndsBelow n G → DepthFirst G n number (step_of vs) (par_of vs) (link_of vs)
  tree w within =
      record {
        number_below = λ v lt. (numbered w v lt).0;
        step_below = λ k lt. S.inside k (omega arith);
        number_step = λ k lt. number_at (step_of vs k) k (S.back k (omega arith));
        step_number = λ v lt. S.forth v (number v) (numbered w v lt).1;
        up = up;
        is_link = λ k z lt. (S.joined k z (omega arith)).0;
        joins = λ k z lt. turned k (S.joined k z (omega arith));
        near = near;
      }
    where
      up : (k : ℕ) → 0 < k → k < n → par_of vs k < k
      up k z lt = S.above k z (omega arith)

      turned :
          (k : ℕ) → Joins G (link_of vs k) (step_of vs k) (step_of vs (par_of vs k)) →
          ((tail_of G (link_of vs k) ≡ step_of vs (par_of vs k)) × (head_of G (link_of vs k) ≡ step_of vs k)) ⊎
          ((tail_of G (link_of vs k) ≡ step_of vs k) × (head_of G (link_of vs k) ≡ step_of vs (par_of vs k)))
      turned k ((l, inl q)) = inr q
      turned k ((l, inr q)) = inl q

      below : (a v : ℕ) → v < n → Anc (par_of vs) a v → Below (par_of vs) a v
      below a v lt = found_above (par_of vs) n S.rooted up v a v (omega arith) lt

      near :
          (e : ℕ) → e < length G →
          Below (par_of vs) (number (tail_of G e)) (number (head_of G e)) ⊎ Below (par_of vs) (number (head_of G e)) (number (tail_of G e))
      near e lt =
          let t = numbered w (tail_of G e) (within e lt).0 in
          let h = numbered w (head_of G e) (within e lt).1 in
          pick (number (tail_of G e)) (number (head_of G e)) t.0 h.0
          (S.near e (tail_of G e) (head_of G e) (number (tail_of G e)) (number (head_of G e)) (lt, inl (refl, refl)) t.1 h.1)
        where
          pick : (t h : ℕ) → t < n → h < n → Anc (par_of vs) t h ⊎ Anc (par_of vs) h t → Below (par_of vs) t h ⊎ Below (par_of vs) h t
          pick t h lt lh (inl a) = inl (below t h lh a)
          pick t h lt lh (inr a) = inr (below h t lt a)

module _ (g : Copy) (s : Spanning) (e : links_of s ≡ closed (graph_of g)) (S : Spans (closed (graph_of g)) g.steps g.first.0 (numbers_of s) (visits_of s)) where
  abbrev P : Graph
  P = graph_of g

  few_links : length (links_of s) ≤ 2049
  few_links = omega (arith, ap length e, more P, length-map (vec_items g.links) pair_of, g.few_links)

  within : EndsBelow g.steps (closed P)
  within = closed_below P g.steps g.first_below g.last_below g.ends_below

  pub spanned_bounded : Bounded s
  spanned_bounded =
      record {
        ends = subst (λ (n : ℕ). EndsBelow n (links_of s)) (sym S.long) (subst (EndsBelow g.steps) (sym e) within);
        linked = λ k z lt. omega (arith, (S.joined k z lt).0, ap length e);
        both = subst (λ (G : Links). (l : ℕ) → l < length G → (get_or (numbers_of s) (tail_of G l) None ≡ None) ↔ (get_or (numbers_of s) (head_of G l) None ≡ None)) (sym e)
            (both (closed P) g.steps g.first.0 (numbers_of s) (visits_of s) S);
        few = omega (arith, few_links, s.tree.filled, S.long, g.few_steps);
      }

  -- what is known of the closed plan's links and as many numbers as there are steps
  abbrev Method : Links → ℕ → Type 0
  Method G n =
      EndsBelow n G × DepthFirst G n (number_of s) (step_of (visits_of s)) (par_of (visits_of s)) (link_of (visits_of s)) ×
      ((k : ℕ) → 0 < k → k < n → 0 < length_at (searched G n (number_of s) (par_of (visits_of s)) (link_of (visits_of s))) k)

  pub spanned_whole : length (visits_of s) ≡ g.steps → Sound P → Whole s
  spanned_whole w sound =
      record {
        within = m.0;
        tree = m.1;
        long = S.long ∙ sym w;
        numbered = λ v lt. (numbered (closed P) g.steps g.first.0 (numbers_of s) (visits_of s) S w v (omega arith)).1;
        bracketed = m.2;
        some = omega (arith, g.some_steps);
        few_numbers = omega (arith, g.few_steps);
        few_links = few_links;
      }
    where
      T : DepthFirst (closed P) g.steps (number_of s) (step_of (visits_of s)) (par_of (visits_of s)) (link_of (visits_of s))
      T = tree (closed P) g.steps g.first.0 (numbers_of s) (visits_of s) S w within

      at_plan : Method (closed P) g.steps
      at_plan = (
        within,
        T,
        tree_links_bracketed P sound (searched (closed P) g.steps (number_of s) (par_of (visits_of s)) (link_of (visits_of s))) (number_of s) (step_of (visits_of s)) (link_of (visits_of s))
            (depth_first_numbered P within (number_of s) (step_of (visits_of s)) (par_of (visits_of s)) (link_of (visits_of s)) T),
      )

      m : Method (links_of s) (size_of s)
      m = subst (λ (G : Links). Method G (size_of s)) (sym e) (subst (Method (closed P)) (sym w) at_plan)
