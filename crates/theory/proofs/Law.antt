-- The law of every history of a book that is opened over a sound plan, by induction over the calls.
use Rattle.std.proofs.Common.{◌≡◌, ℕ, suc, ◌-◌, ◌<◌, ◌≤◌, ◌⊎◌, List, [], ◌∷◌, length, get_or, Some, None, sym, refl, ap, ◌∙◌, subst, inl, inr, arith}
use Rattle.std.proofs.lemmas.Bool.{cases_eq}
use Rattle.model.specs.Meaning.{Graph, Meaning}
use Rattle.model.specs.Walks.{Canonical, Sound}
use Rattle.model.specs.Parts.{Part, whole, fragment, Proper, Holds, Apart, Clash}
use Rattle.model.specs.Listing.{Row, row}
use Rattle.model.specs.History.{ok, refused, taking, History, shown, Shown, slip, ended, holder, Once, Round, Right, Answered}
use Rattle.theory.specs.Calls.{View, Meets, Take, Run, opened, nexts, restarts, finds, takes, gives, rejects, Opened, LawStands}
use Rattle.theory.proofs.Insides.{nest}
use Rattle.std.proofs.lemmas.Option.{none-some}
use Rattle.theory.proofs.Kept.{Kept, fit, meets_from, meets_clash, kept_next, kept_restart, kept_take, kept_give}

module _ (μ : Meaning) (sound : Sound μ.graph) (v : View) (start : Opened μ v) where
  abbrev g : Graph
  g = μ.graph

  abbrev n : ℕ
  n = length v.rows

  abbrev part : ℕ → Part
  part i = (row v.rows i).part

  -- of a history
  abbrev After : View → History → Type 0
  After w es = Kept g v w (shown es) (slip es) (ended es) (holder es)

  to : (es : History) (w x : View) → x ≡ w → After w es → After x es
  to es w x e K = rw e K

  -- a granted take is clear of all rows that are out
  take_clear :
      (es : History) (w x : View) (i h : ℕ) → After w es → Take w i h (ok tt) x →
      (i < n) × ((j k : ℕ) → holder es j ≡ Some k → Clash g (part i) (part j) → ⊥)
  take_clear es w x i h K t =
      let li : i < n = omega (arith, t.0, ap length K.rows) in (
        li,
        λ j k o c.
            let l = K.out_row j k o in
            t.1 j (omega (arith, ap length K.rows)) (meets_from μ sound v start w (shown es) (slip es) (ended es) (holder es) K i j k li o c),
      )

  first : After v []
  first =
      record {
        rows = refl;
        runs = refl;
        homes = refl;
        place = start.start;
        fits = omega arith;
        order = λ j l. absurd (omega arith);
        size = start.paired;
        marks = start.none_out;
        out_row = λ i h e. absurd (none-some h e);
        live = λ k s e. absurd (none-some s e);
        alone = λ k l s t d e f e' f' x. none-some s e;
        apart = λ i j h k d e f s x y. none-some h e;
      }

  kept : {es : History} {w : View} → Run v es w → After w es
  kept opened = first
  kept (nexts {es = es} {w = w} None x r t) = to es w x t.1 (kept r)
  kept (nexts {es = es} {w = w} (Some y) x r t) =
      let K = kept r in
      let e : row v.rows (length (shown es)) ≡ y.1 = cc (K.rows, K.place, t.1) in
      rw (t.2, ← e) (kept_next μ sound v start w (shown es) (slip es) (ended es) (holder es) K (omega (arith, t.0, ap length K.rows, K.place)))
  kept (restarts {es = es} {w = w} x r t) =
      rw t (kept_restart μ sound v start w (shown es) (slip es) (ended es) (holder es) (kept r))
  kept (finds {es = es} {w = w} s (ok i) x r t) = to es w x t.2 (kept r)
  kept (finds {es = es} {w = w} s (refused a p) x r t) = to es w x t.3 (kept r)
  kept (takes {es = es} {w = w} i h (ok u) x r t) =
      let K = kept r in
      let c = take_clear es w x i h K t in
      rw t.2 (kept_take μ sound v start w (shown es) (slip es) (ended es) (holder es) K i h (length es) c.0 c.1)
  kept (takes {es = es} {w = w} i h (refused a p) x r t) = to es w x t.1 (kept r)
  kept (gives {es = es} {w = w} k s (ok u) x r q t) =
      rw t.1 (kept_give μ sound v start w (shown es) (slip es) (ended es) (holder es) (kept r) k s q.0 q.1)
  kept (gives {es = es} {w = w} k s (refused a p) x r q t) = to es w x t.3 (kept r)
  kept (rejects {es = es} {w = w} i h a p x r t) = to es w x t.3 (kept r)

  -- a list that has all rows, the newest first
  round : (sh : List Row) → length sh ≡ n → ((j : ℕ) → j < length sh → row sh j ≡ row v.rows (length sh - suc j)) → Round g sh
  round sh e order =
      record {
        plan = once whole 0 start.listing.some start.listing.top;
        fragments = λ a b c. let i = start.listing.listed a b c in once (fragment a b) i.0 i.1 i.2;
        no_more = λ j l. no_more j l (cases_eq (length sh - suc j) 0);
      }
    where
      at : (j : ℕ) → j < length sh → (row sh j).part ≡ part (length sh - suc j)
      at j l = ap (λ (x : Row). x.part) (order j l)

      once : (p : Part) (i : ℕ) → i < n → part i ≡ p → Once sh p
      once p i l q =
          let k : ℕ = length sh - suc i in
          let lk : k < length sh = omega (arith, e) in
          let f : length sh - suc k ≡ i = omega (arith, e) in
          let a : (row sh k).part ≡ part i = at k lk ∙ ap part f in
          (k, lk, a ∙ q, only)
        where
          only : (j : ℕ) → j < length sh → (row sh j).part ≡ p → j ≡ length sh - suc i
          only j lj r =
              let same : part (length sh - suc j) ≡ part i = sym (at j lj) ∙ r ∙ sym q in
              let s = start.listing.once (length sh - suc j) i (omega (arith, e)) l same in
              omega (arith, e)

      no_more :
          (j : ℕ) → j < length sh → (length sh - suc j ≡ 0) ⊎ (length sh - suc j ≡ 0 → ⊥) →
          ((row sh j).part ≡ whole) ⊎ ((a : ℕ) × (b : ℕ) × ((row sh j).part ≡ fragment a b) × Canonical g a b)
      no_more j l (inl z) = inl (at j l ∙ ap part z ∙ start.listing.top)
      no_more j l (inr z) = pick (start.listing.canonical (length sh - suc j) (omega arith) (omega (arith, e)))
        where
          pick :
              (a : ℕ) × (b : ℕ) × (part (length sh - suc j) ≡ fragment a b) × Canonical g a b →
              ((row sh j).part ≡ whole) ⊎ ((a : ℕ) × (b : ℕ) × ((row sh j).part ≡ fragment a b) × Canonical g a b)
          pick (a, b, q, c) = inr (a, b, at j l ∙ q, c)

  -- the newest answer is right
  newest : History → Type 0
  newest es = elim es [ [] ↦ Unit {0} | e ∷ ds ↦ Right g v.rows ds e ]

  right : {es : History} {w : View} → Run v es w → newest es
  unfolding newest
  right opened = tt
  right (nexts {es = es} {w = w} None x r t) =
      let K = kept r in
      let e : length (shown es) ≡ n = omega (arith, t.0, ap length K.rows, K.place, K.fits) in
      (e, round (shown es) e K.order)
  right (nexts {es = es} {w = w} (Some y) x r t) =
      let K = kept r in
      let a : y.0 ≡ length (shown es) = cc (K.place, t.1) in
      (a, omega (arith, t.0, ap length K.rows, K.place), cc (K.rows, K.place, t.1))
  right (restarts x r t) = tt
  right (finds {es = es} {w = w} s (ok i) x r t) =
      let K = kept r in
      let l : s < g.steps = omega (arith, t.0, ap length K.homes, start.known) in
      let e : i ≡ get_or v.homes s 0 = cc (K.homes, t.1) in
      (l, rw e (start.homes s l))
  right (finds {es = es} {w = w} s (refused a p) x r t) = let K = kept r in (omega (arith, t.0, ap length K.homes, start.known), t.1, t.2)
  right (takes {es = es} {w = w} i h (ok u) x r t) = let c = take_clear es w x i h (kept r) t in (c.0, λ j b. c.1 j b.0.0 b.0.1 b.1)
  right (takes {es = es} {w = w} i h (refused a p) x r t) = why t.0
    where
      K : After w es
      K = kept r

      why :
          ((length w.rows ≤ i) × (a ≡ 61) × (p ≡ i)) ⊎
          ((i < length w.rows) × (a ≡ 62) × (p < length w.rows) × Meets w i p × ((j : ℕ) → j < p → Meets w i j → ⊥)) →
          Right g v.rows es (taking i h (refused a p))
      why (inl q) = inl (omega (arith, q.0, ap length K.rows), q.1, q.2)
      why (inr q) =
          let li : i < n = omega (arith, q.0, ap length K.rows) in
          let lp : p < n = omega (arith, q.2, ap length K.rows) in
          let m = q.3.0 in
          inr (
            li,
            q.1,
            ((m.0, sym (K.marks p) ∙ m.1), meets_clash μ sound v start w (shown es) (slip es) (ended es) (holder es) K i p li lp q.3),
            λ j l b. q.4 j l (meets_from μ sound v start w (shown es) (slip es) (ended es) (holder es) K i j b.0.0 li b.0.1 b.1),
          )
  right (gives k s (ok u) x r q t) = (s, q)
  right (gives {es = es} {w = w} k s (refused a p) x r q t) = let K = kept r in t.0 (K.marks s.0 ∙ K.live k s q.0 q.1)
  right (rejects {es = es} {w = w} i h a p x r t) = let K = kept r in (λ e. t.0 (K.marks i ∙ e), t.1, t.2)

  -- what was shown is a row's part
  seen : {es : History} {w : View} → Run v es w → (p : Part) → Shown es p → (i : ℕ) × (i < n) × (part i ≡ p)
  unfolding newest
  seen opened p h = absurd h
  seen (nexts None x r t) p h = seen r p h
  seen (nexts (Some y) x r t) p (inl e) = let a = right (nexts (Some y) x r t) in (y.0, a.1, ap (λ (z : Row). z.part) (sym a.2) ∙ e)
  seen (nexts (Some y) x r t) p (inr h) = seen r p h
  seen (restarts x r t) p h = seen r p h
  seen (finds s a x r t) p h = seen r p h
  seen (takes i h a x r t) p q = seen r p q
  seen (gives k s a x r q t) p h = seen r p h
  seen (rejects i h a q x r t) p z = seen r p z

  answered : {es : History} {w : View} → Run v es w → Answered g v.rows es
  unfolding newest
  answered opened = tt
  answered (nexts a x r t) = (right (nexts a x r t), answered r)
  answered (restarts x r t) = (tt, answered r)
  answered (finds s a x r t) = (right (finds s a x r t), answered r)
  answered (takes i h a x r t) = (right (takes i h a x r t), answered r)
  answered (gives k s a x r q t) = (right (gives k s a x r q t), answered r)
  answered (rejects i h a p x r t) = (right (rejects i h a p x r t), answered r)

pub law_stands : LawStands
law_stands μ sound v start =
    record {
      listing = start.listing;
      lawful = λ es w r.
          record {
            answered = answered μ sound v start r;
            nested = λ p q x y. both p q (seen μ sound v start r p x) (seen μ sound v start r q y);
            apart = λ i j d o o'. (kept μ sound v start r).apart i j o.0 o'.0 d o.1 o'.1;
          };
    }
  where
    both :
        (p q : Part) → (i : ℕ) × (i < length v.rows) × ((row v.rows i).part ≡ p) → (i : ℕ) × (i < length v.rows) × ((row v.rows i).part ≡ q) →
        Apart μ.graph p q ⊎ (Holds μ.graph p q ⊎ Holds μ.graph q p)
    both p q i j =
        nest μ.graph sound p q (subst (Proper μ.graph) i.2 (fit μ sound v start i.0 i.1)) (subst (Proper μ.graph) j.2 (fit μ sound v start j.0 j.1))
