-- What each kind of turn of the search keeps.
use Rattle.std.proofs.Common.{◌≡◌, ℕ, ◌+◌, ◌<◌, ◌≤◌, Bool, true, false, ◌⊎◌, List, [], ◌∷◌, ◌++◌, length, get_or, set, is_some, Some, None, Option, sym, refl, ap, ◌∙◌, subst, inl, inr, arith, length-set}
use Rattle.std.proofs.lemmas.List.{get_or_append_left, get_or-set_same, get_or-set_other, get_or_default, length_push, get_or_push}
use Rattle.std.proofs.lemmas.Bool.{cases_eq, cases_lt, false≢true}
use Rattle.std.proofs.lemmas.Option.{same_Some}
use Rattle.lists.specs.Rows.{top, rest}
use Rattle.lists.specs.Many.{row}
use Rattle.lists.proofs.Many.{top_some, top_none}
use Rattle.search.specs.declared.arcs.Arc.{Arc}
use Rattle.search.specs.declared.trees.Tree.{Tree}
use Rattle.search.specs.declared.trees.Visit.{Visit}
use Rattle.model.specs.Meaning.{tail_of, head_of, EndsBelow}
use Rattle.search.specs.Joined.{arc, arcs_of, Joins, Connected}
use Rattle.search.specs.Numbered.{none, visited, Known, Forth, Above}
use Rattle.search.specs.Spans.{Anc, par_of, step_of, link_of, Spans}
use Rattle.search.proofs.Ancestry.{anc_self, anc_up, anc_below, anc_same, anc_root}
use Rattle.search.proofs.Numbers.{all_counted, some_of, none_is, none_left}
use Rattle.search.proofs.Places.{In, push_each}
use Rattle.search.proofs.Rowing.{Table, row_both, row_cases, arcs_join, arcs_whole}

-- the step v has a number
abbrev pub Has : List (Option ℕ) → ℕ → Type 0
Has ns v = is_some (get_or ns v None) ≡ true

-- ns, vs: the numbers and the visits; t: the arcs of each step that are still to be looked at; at: the number that the search is at
pub record Inv (G : List (ℕ × ℕ)) (n root : ℕ) (ns : List (Option ℕ)) (vs : List Visit) (t : List (List Arc)) (at : ℕ) : Type 0 where
  pub long : length ns ≡ n
  pub wide : length t ≡ n
  pub here : at < length vs
  pub first : step_of vs 0 ≡ root
  pub rooted : par_of vs 0 ≡ 0
  pub arcs : (v : ℕ) (a : Arc) → In a (row t v) → Joins G a.link.0 v a.to.0
  pub joined : (k : ℕ) → 0 < k → k < length vs → Joins G (link_of vs k) (step_of vs k) (step_of vs (par_of vs k))
  pub seen : (l u v : ℕ) → Joins G l u v → In (arc l v) (row t u) ⊎ Has ns v
  pub stacked : (k : ℕ) → k < length vs → Anc (par_of vs) k at ⊎ (row t (step_of vs k) ≡ [])
  pub near : (l u v i j : ℕ) → Joins G l u v → get_or ns u None ≡ Some i → get_or ns v None ≡ Some j → Anc (par_of vs) i j ⊎ Anc (par_of vs) j i

pub joins_sym : (G : List (ℕ × ℕ)) (l u v : ℕ) → Joins G l u v → Joins G l v u
joins_sym G l u v ((lt, inl p)) = (lt, inr p)
joins_sym G l u v ((lt, inr p)) = (lt, inl p)

-- an arc whose other end has a number is looked at
inv_pop : (G : List (ℕ × ℕ)) (n root : ℕ) (ns : List (Option ℕ)) (vs : List Visit) (t : List (List Arc)) (at x : ℕ) (a : Arc) (ys : List Arc) → x < n → row t x ≡ a ∷ ys → Has ns a.to.0 → Inv G n root ns vs t at → Inv G n root ns vs (set t x ys) at
inv_pop G n root ns vs t at x a ys lx e known i =
    record { long = i.long; wide = length-set t x ys ∙ i.wide; here = i.here; first = i.first; rooted = i.rooted; arcs = arcs'; joined = i.joined; seen = seen'; stacked = stacked'; near = i.near }
  where
    lt : x < length t
    lt = let w = i.wide in omega arith

    was : (v : ℕ) → v ≡ x → row t v ≡ a ∷ ys
    was v q = ap (λ (k : ℕ). row t k) q ∙ e

    arcs' : (v : ℕ) (b : Arc) → In b (row (set t x ys) v) → Joins G b.link.0 v b.to.0
    arcs' v b =
        row_both t x ys v lt (λ bs. In b bs → Joins G b.link.0 v b.to.0)
        (λ q h. i.arcs v b (subst (λ (bs : List Arc). In b bs) (sym (was v q)) (inr h))) (λ q h. i.arcs v b h)

    seen' : (l u v : ℕ) → Joins G l u v → In (arc l v) (row (set t x ys) u) ⊎ Has ns v
    seen' l u v j =
        row_both t x ys u lt (λ bs. In (arc l v) bs ⊎ Has ns v) (λ q. go q (i.seen l u v j)) (λ q. i.seen l u v j)
      where
        split : In (arc l v) (a ∷ ys) → In (arc l v) ys ⊎ Has ns v
        split (inl q) = inr (subst (λ (k : ℕ). Has ns k) (ap (λ (b : Arc). b.to.0) (sym q)) known)
        split (inr h) = inl h

        go : u ≡ x → In (arc l v) (row t u) ⊎ Has ns v → In (arc l v) ys ⊎ Has ns v
        go q (inl h) = split (subst (λ (bs : List Arc). In (arc l v) bs) (was u q) h)
        go q (inr h) = inr h

    stacked' : (k : ℕ) → k < length vs → Anc (par_of vs) k at ⊎ (row (set t x ys) (step_of vs k) ≡ [])
    stacked' k lk = go (i.stacked k lk)
      where
        go : Anc (par_of vs) k at ⊎ (row t (step_of vs k) ≡ []) → Anc (par_of vs) k at ⊎ (row (set t x ys) (step_of vs k) ≡ [])
        go (inl h) = inl h
        go (inr h) =
            inr (row_both t x ys (step_of vs k) lt (λ bs. bs ≡ []) (λ q. let z : [] ≡ a ∷ ys = sym h ∙ was (step_of vs k) q in cc) (λ q. h))

-- all arcs of the step are looked at: the search goes up
inv_up : (G : List (ℕ × ℕ)) (n root : ℕ) (ns : List (Option ℕ)) (vs : List Visit) (t : List (List Arc)) (at : ℕ) → Above vs → 0 < at → row t (step_of vs at) ≡ [] → Inv G n root ns vs t at → Inv G n root ns vs t (par_of vs at)
inv_up G n root ns vs t at above pos e i =
    record { long = i.long; wide = i.wide; here = let p = above at pos i.here in let q = i.here in omega arith; first = i.first; rooted = i.rooted; arcs = i.arcs; joined = i.joined; seen = i.seen; stacked = λ k lt. go k (i.stacked k lt); near = i.near }
  where
    go : (k : ℕ) → Anc (par_of vs) k at ⊎ (row t (step_of vs k) ≡ []) → Anc (par_of vs) k (par_of vs at) ⊎ (row t (step_of vs k) ≡ [])
    go k (inr h) = inr h
    go k (inl h) = pick (anc_below (par_of vs) k at h)
      where
        pick : (k ≡ at) ⊎ Anc (par_of vs) k (par_of vs at) → Anc (par_of vs) k (par_of vs at) ⊎ (row t (step_of vs k) ≡ [])
        pick (inl q) = inr (ap (λ (j : ℕ). row t (step_of vs j)) q ∙ e)
        pick (inr h) = inl h

-- the step w, at the other end of an arc of the step that the search is at, gets the number m
module _ (G : List (ℕ × ℕ)) (n root : ℕ) (ns : List (Option ℕ)) (vs : List Visit) (t : List (List Arc)) (at l w m : ℕ) (em : m ≡ length vs) (known : Known ns vs) (forth : Forth ns vs) (above : Above vs) (wn : w < n) (free : get_or ns w None ≡ None) (jn : Joins G l (step_of vs at) w) (i : Inv G n root ns vs t at) where
  abbrev longer : List Visit
  longer = vs ++ visited w at l ∷ []

  abbrev given : List (Option ℕ)
  given = set ns w (Some m)

  lw : w < length ns
  lw = let q = i.long in omega arith

  more : length longer ≡ length vs + 1
  more = length_push vs (visited w at l)

  pos : 0 < length vs
  pos = let h = i.here in omega arith

  old : (k : ℕ) → k < length vs → get_or longer k none ≡ get_or vs k none
  old k lt = get_or_append_left vs (visited w at l ∷ []) none k lt

  new : get_or longer m none ≡ visited w at l
  new = get_or_push vs (visited w at l) none m (sym em)

  low : (k : ℕ) → k < length vs → par_of vs k < length vs
  low k lt = go (cases_lt 0 k)
    where
      go : (0 < k) ⊎ (k ≤ 0) → par_of vs k < length vs
      go (inl p) = let q = above k p lt in omega arith
      go (inr p) =
          let z : k ≡ 0 = omega arith in
          subst (λ (t : ℕ). t < length vs) (sym (ap (λ (t : ℕ). par_of vs t) z ∙ i.rooted)) pos

  keep : (a b : ℕ) → b < length vs → Anc (par_of vs) a b → Anc (par_of longer) a b
  keep a b lt h = anc_same (par_of vs) (par_of longer) (length vs) low (λ k kl. ap (λ (t : Visit). t.parent) (old k kl)) a b lt h

  below : (a : ℕ) → Anc (par_of vs) a at → Anc (par_of longer) a m
  below a h = anc_up (par_of longer) a m at (ap (λ (t : Visit). t.parent) new) (keep a at i.here h)

  at_w : (u : ℕ) → u ≡ w → get_or given u None ≡ Some m
  at_w u e = ap (λ (t : ℕ). get_or given t None) e ∙ get_or-set_same ns w (Some m) None lw

  at_u : (u : ℕ) → (u ≡ w → ⊥) → get_or given u None ≡ get_or ns u None
  at_u u ne = get_or-set_other ns w u (Some m) None ne

  joined' : (k : ℕ) → 0 < k → k < length longer → Joins G (link_of longer k) (step_of longer k) (step_of longer (par_of longer k))
  joined' k kp kl =
      push_each vs (visited w at l) none (λ k v. 0 < k → Joins G v.link.0 v.step.0 (step_of longer v.parent))
      (λ k p kp. subst (λ (v : Visit). Joins G (link_of vs k) (step_of vs k) v.step.0) (sym (old (par_of vs k) (low k p))) (i.joined k kp p))
      (λ kp. subst (λ (v : Visit). Joins G l w v.step.0) (sym (old at i.here)) (joins_sym G l (step_of vs at) w jn)) k kl kp

  seen' : (k u v : ℕ) → Joins G k u v → In (arc k v) (row t u) ⊎ Has given v
  seen' k u v j = go (i.seen k u v j) (cases_eq v w)
    where
      go : In (arc k v) (row t u) ⊎ Has ns v → (v ≡ w) ⊎ (v ≡ w → ⊥) → In (arc k v) (row t u) ⊎ Has given v
      go (inl h) e = inl h
      go (inr h) (inl e) = inr (ap is_some (at_w v e))
      go (inr h) (inr e) = inr (ap is_some (at_u v e) ∙ h)

  stacked' : (k : ℕ) → k < length longer → Anc (par_of longer) k m ⊎ (row t (step_of longer k) ≡ [])
  stacked' =
      push_each vs (visited w at l) none (λ k v. Anc (par_of longer) k m ⊎ (row t v.step.0 ≡ []))
      (λ k p. was k (i.stacked k p)) (inl (anc_self (par_of longer) (length vs) m (sym em)))
    where
      was : (k : ℕ) → Anc (par_of vs) k at ⊎ (row t (step_of vs k) ≡ []) → Anc (par_of longer) k m ⊎ (row t (step_of vs k) ≡ [])
      was k (inl h) = inl (below k h)
      was k (inr h) = inr h

  -- a step with a number that has a link to w is on the way from the root to where the search is
  onto : (k v j : ℕ) → Joins G k v w → get_or ns v None ≡ Some j → Anc (par_of vs) j at
  onto k v j jk e = go (i.stacked j (known v j e)) (i.seen k v w jk)
    where
      go : Anc (par_of vs) j at ⊎ (row t (step_of vs j) ≡ []) → In (arc k w) (row t v) ⊎ Has ns w → Anc (par_of vs) j at
      go (inl h) s = h
      go (inr h) (inl s) =
          absurd (subst (λ (t : List Arc). In (arc k w) t) (ap (λ (j : ℕ). row t j) (sym (forth v j e)) ∙ h) s)
      go (inr h) (inr s) =
          absurd (false≢true (ap is_some (sym free) ∙ s))

  is_m : (u x : ℕ) → u ≡ w → get_or given u None ≡ Some x → x ≡ m
  is_m u x e q = same_Some x m (sym q ∙ at_w u e)

  near' : (k u v x y : ℕ) → Joins G k u v → get_or given u None ≡ Some x → get_or given v None ≡ Some y → Anc (par_of longer) x y ⊎ Anc (par_of longer) y x
  near' k u v x y j p q = go (cases_eq u w) (cases_eq v w)
    where
      two : get_or ns u None ≡ Some x → get_or ns v None ≡ Some y → Anc (par_of vs) x y ⊎ Anc (par_of vs) y x → Anc (par_of longer) x y ⊎ Anc (par_of longer) y x
      two p' q' (inl h) = inl (keep x y (known v y q') h)
      two p' q' (inr h) = inr (keep y x (known u x p') h)

      go : (u ≡ w) ⊎ (u ≡ w → ⊥) → (v ≡ w) ⊎ (v ≡ w → ⊥) → Anc (par_of longer) x y ⊎ Anc (par_of longer) y x
      go (inl e) (inl f) = inl (anc_self (par_of longer) x y (is_m u x e p ∙ sym (is_m v y f q)))
      go (inl e) (inr f) =
          inr (subst (λ (t : ℕ). Anc (par_of longer) y t) (sym (is_m u x e p))
          (below y (onto k v y (subst (λ (t : ℕ). Joins G k v t) e (joins_sym G k u v j)) (sym (at_u v f) ∙ q))))
      go (inr e) (inl f) =
          inl (subst (λ (t : ℕ). Anc (par_of longer) x t) (sym (is_m v y f q))
          (below x (onto k u x (subst (λ (t : ℕ). Joins G k u t) f j) (sym (at_u u e) ∙ p))))
      go (inr e) (inr f) =
          let p' : get_or ns u None ≡ Some x = sym (at_u u e) ∙ p in
          let q' : get_or ns v None ≡ Some y = sym (at_u v f) ∙ q in
          two p' q' (i.near k u v x y j p' q')

  inv_visit : Inv G n root given longer t m
  inv_visit =
      record { long = length-set ns w (Some m) ∙ i.long; wide = i.wide; here = omega (arith, more); first = ap (λ (v : Visit). v.step.0) (old 0 pos) ∙ i.first; rooted = ap (λ (v : Visit). v.parent) (old 0 pos) ∙ i.rooted; arcs = i.arcs; joined = joined'; seen = seen'; stacked = stacked'; near = near' }

joins_in : (G : List (ℕ × ℕ)) (n l u v : ℕ) → EndsBelow n G → Joins G l u v → v < n
joins_in G n l u v h ((lt, inl p)) = subst (λ (k : ℕ). k < n) p.1 (h l lt).1
joins_in G n l u v h ((lt, inr p)) = subst (λ (k : ℕ). k < n) p.0 (h l lt).0

-- the first turn
pub inv_start : (G : List (ℕ × ℕ)) (n root : ℕ) (T : Tree) (ws : List Visit) (t : List (List Arc)) (at : ℕ) → EndsBelow n G → ws ≡ [] → T.visits.items ≡ ws ++ visited root 0 0 ∷ [] → at ≡ length ws → length T.number.items ≡ n → Table n (arcs_of G (length G)) t → Inv G n root T.number.items T.visits.items t at
inv_start G n root T ws t at below ew ev et long r =
    let z : length ws ≡ 0 = ap length ew in
    let e : T.visits.items ≡ visited root 0 0 ∷ [] = ev ∙ ap (λ (vs : List Visit). vs ++ visited root 0 0 ∷ []) ew in
    let one : length T.visits.items ≡ 1 = ap length e in
    record {
      long = long;
      wide = r.0;
      here = omega arith;
      first = ap (λ (vs : List Visit). step_of vs 0) e;
      rooted = ap (λ (vs : List Visit). par_of vs 0) e;
      arcs = arcs;
      joined = λ k p q. absurd (omega arith);
      seen = λ l u v j. inl (whole l u v j);
      stacked = λ k lt. inl (anc_self (par_of T.visits.items) k at (omega arith));
      near = λ l u v i j h p q. inl (anc_self (par_of T.visits.items) i j (let a = T.known u i p in let b = T.known v j q in omega arith));
    }
  where
    arcs : (v : ℕ) (a : Arc) → In a (row t v) → Joins G a.link.0 v a.to.0
    arcs v a h = go (row_cases t (arcs_of G (length G)) v r.1)
      where
        go : (row t v ≡ arcs_of G (length G) v) ⊎ (row t v ≡ []) → Joins G a.link.0 v a.to.0
        go (inl e) = arcs_join G (length G) (omega arith) v a (subst (λ (bs : List Arc). In a bs) e h)
        go (inr e) = absurd (subst (λ (bs : List Arc). In a bs) e h)

    whole : (l u v : ℕ) → Joins G l u v → In (arc l v) (row t u)
    whole l u v j =
        let wide = r.0 in
        let lu = joins_in G n l v u below (joins_sym G l u v j) in
        subst (λ (bs : List Arc). In (arc l v) bs) (sym (r.1 u (omega arith))) (arcs_whole G (length G) l u v j.0 j)

same_bool : (a b : Bool) → (a ≡ true → b ≡ true) → (b ≡ true → a ≡ true) → a ≡ b
same_bool true b f g = sym (f refl)
same_bool false true f g = g refl
same_bool false false f g = refl

-- the search is back at the root, and nothing is left there
inv_done : (G : List (ℕ × ℕ)) (n root : ℕ) (T : Tree) (t : List (List Arc)) (at : ℕ) → at ≡ 0 → row t (step_of T.visits.items at) ≡ [] → Inv G n root T.number.items T.visits.items t at → Spans G n root T.number.items T.visits.items
inv_done G n root T t at et e i =
    record {
      long = i.long;
      first = i.first;
      rooted = i.rooted;
      inside = λ k lt. let p = T.inside k lt in let q = i.long in omega arith;
      back = T.back;
      known = T.known;
      forth = T.forth;
      above = T.above;
      joined = i.joined;
      near = i.near;
      closed = λ l u v k j p. some_of (get_or T.number.items v None) (over l u v j (ap is_some p));
      whole = λ conn. all_counted T.number.items T.visits.items n i.long T.filled (each conn);
      numbered = λ all v lt. let f = T.filled in let q = i.long in let p = some_of (get_or T.number.items v None) (none_left T.number.items (omega arith) v (omega arith)) in (p.0, let q = T.known v p.0 p.1 in omega arith, p.1);
    }
  where
    -- nothing is left at any number
    empty : (k : ℕ) → Anc (par_of T.visits.items) k at ⊎ (row t (step_of T.visits.items k) ≡ []) → row t (step_of T.visits.items k) ≡ []
    empty k (inr h) = h
    empty k (inl h) =
        let z : k ≡ 0 = anc_root (par_of T.visits.items) i.rooted k (subst (λ (j : ℕ). Anc (par_of T.visits.items) k j) et h) in
        ap (λ (j : ℕ). row t (step_of T.visits.items j)) (z ∙ sym et) ∙ e

    over : (l u v : ℕ) → Joins G l u v → Has T.number.items u → Has T.number.items v
    over l u v j h = go (some_of (get_or T.number.items u None) h) (i.seen l u v j)
      where
        go : (k : ℕ) × (get_or T.number.items u None ≡ Some k) → In (arc l v) (row t u) ⊎ Has T.number.items v → Has T.number.items v
        go p (inr s) = s
        go p (inl s) =
            absurd (subst (λ (bs : List Arc). In (arc l v) bs)
            (ap (λ (k : ℕ). row t k) (sym (T.forth u p.0 p.1)) ∙ empty p.0 (i.stacked p.0 (T.known u p.0 p.1))) s)

    each : Connected G n root → (v : ℕ) → v < n → Has T.number.items v
    each conn =
        conn (λ v. is_some (get_or T.number.items v None))
        (ap is_some (ap (λ (k : ℕ). get_or T.number.items k None) (sym i.first) ∙ T.back 0 (let h = i.here in omega arith)))
        (λ l lt. same_bool _ _
        (over l (tail_of G l) (head_of G l) (lt, inl (refl, refl)))
        (over l (head_of G l) (tail_of G l) (lt, inr (refl, refl))))

-- The same as the code has it: h is the visit that it read.
module _ (G : List (ℕ × ℕ)) (n root : ℕ) (below : EndsBelow n G) (T : Tree) (t : List (List Arc)) (at : ℕ) (i : Inv G n root T.number.items T.visits.items t at) (h : Visit) (read : h ≡ get_or T.visits.items at h) where
  here_is : get_or T.visits.items at none ≡ h
  here_is = sym (read ∙ get_or_default T.visits.items at h none i.here)

  pub step_in : h.step.0 < n
  step_in =
      let p = subst (λ (v : Visit). v.step.0 < length T.number.items) here_is (T.inside at i.here) in omega (arith, i.long)

  module _ (e : None ≡ top (row t h.step.0)) where
    nothing_left : row t (step_of T.visits.items at) ≡ []
    nothing_left = ap (λ (v : Visit). row t v.step.0) here_is ∙ top_none (row t h.step.0) e

    pub turn_up : (at ≡ 0 → ⊥) → (h.parent < at) × Inv G n root T.number.items T.visits.items t h.parent
    turn_up ne =
        let pos : 0 < at = omega arith in (
          subst (λ (v : Visit). v.parent < at) here_is (T.above at pos i.here),
          subst (λ (v : Visit). Inv G n root T.number.items T.visits.items t v.parent) here_is (inv_up G n root T.number.items T.visits.items t at T.above pos nothing_left i),
        )

    pub turn_done : at ≡ 0 → Spans G n root T.number.items T.visits.items
    turn_done et = inv_done G n root T t at et nothing_left i

  module _ (a : Arc) (e : Some a ≡ top (row t h.step.0)) where
    taken : row t h.step.0 ≡ a ∷ rest (row t h.step.0)
    taken = top_some a (row t h.step.0) e

    joins : Joins G a.link.0 h.step.0 a.to.0
    joins = i.arcs h.step.0 a (subst (λ (bs : List Arc). In a bs) (sym taken) (inl refl))

    pub arc_in : a.to.0 < n
    arc_in = joins_in G n a.link.0 h.step.0 a.to.0 below joins

    other_in : a.to.0 < length T.number.items
    other_in = let p = arc_in in omega (arith, i.long)

    -- o is the number that is read for the other end
    module _ (o : Option ℕ) (told : o ≡ get_or T.number.items a.to.0 o) where
      reads : get_or T.number.items a.to.0 None ≡ o
      reads = sym (told ∙ get_or_default T.number.items a.to.0 o None other_in)

      pub turn_seen : is_some o ≡ true → Inv G n root T.number.items T.visits.items (set t h.step.0 (rest (row t h.step.0))) at
      turn_seen known =
          inv_pop G n root T.number.items T.visits.items t at h.step.0 a (rest (row t h.step.0)) step_in taken (ap is_some reads ∙ known) i

      pub fresh : is_some o ≡ false → get_or T.number.items a.to.0 None ≡ None
      fresh f = reads ∙ none_is o f

    pub turn_visit : (T' : Tree) (m : ℕ) → T'.visits.items ≡ T.visits.items ++ visited a.to.0 at a.link.0 ∷ [] → T'.number.items ≡ set T.number.items a.to.0 (Some m) → m ≡ length T.visits.items → get_or T.number.items a.to.0 None ≡ None → Inv G n root T'.number.items T'.visits.items (set t h.step.0 (rest (row t h.step.0))) m
    turn_visit T' m ev en em free =
        let j : Joins G a.link.0 (step_of T.visits.items at) a.to.0 = subst (λ (v : Visit). Joins G a.link.0 v.step.0 a.to.0) (sym here_is) joins in
        inv_pop G n root T'.number.items T'.visits.items t m h.step.0 a (rest (row t h.step.0)) step_in taken
        (ap is_some (ap (λ (os : List (Option ℕ)). get_or os a.to.0 None) en ∙ get_or-set_same T.number.items a.to.0 (Some m) None other_in))
        (subst (λ (vs : List Visit). Inv G n root T'.number.items vs t m) (sym ev)
        (subst (λ (os : List (Option ℕ)). Inv G n root os (T.visits.items ++ visited a.to.0 at a.link.0 ∷ []) t m) (sym en)
        (inv_visit G n root T.number.items T.visits.items t at a.link.0 a.to.0 m em T.known T.forth T.above arc_in free j i)))
