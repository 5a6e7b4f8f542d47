-- Takes and give-backs by computing, from the definition of clashing.
use Rattle.std.proofs.Common.{◌≡◌, ℕ, zero, suc, ◌<◌, ◌≤◌, Bool, true, false, cond, not, ◌&&◌, ◌||◌, eqb, ltb, leb, ◌⊎◌, List, [], ◌∷◌, length, Some, None, Option, refl, inl, inr, arith, Decides}
use Rattle.std.proofs.lemmas.Option.{none-some}
use Rattle.std.proofs.lemmas.Bool.Decides.{Decides-and, nat_tests}
use mathlib.Core.Logic.{∥∥₁_elim}
use mathlib.Core.Bool.{Bool-set}
use Rattle.std.proofs.lemmas.Bool.{cases_Bool, both_ways, and_parts, and_from, or_cases, not-true, not-false, not_from_false, eqb-true, ltb-true, false≢true, true≢false, false_from_ne_true}
use Rattle.model.specs.Meaning.{Graph, Meaning}
use Rattle.model.specs.Walks.{Sound}
use Rattle.model.specs.Parts.{Part, In, Proper, Clash}
use Rattle.model.specs.Listing.{Row, row, Listing}
use Rattle.model.specs.History.{ok, refused, Event, showing, restarting, finding, taking, giving, rejecting, History, slip, ended, is_for, holder, Blocks, Right, Answered}
use Rattle.theory.specs.Tests.{each_below}
use Rattle.theory.proofs.Insides.{step}
use Rattle.theory.proofs.Unique.{proper}
use Rattle.theory.proofs.Tells.{each_at}
use Rattle.theory.proofs.Parts.{inb, t_in}

unfoldable pub is_some : Option ℕ → Bool
is_some None = false
is_some (Some h) = true

t_some : (o : Option ℕ) → Decides (is_some o) ((h : ℕ) × (o ≡ Some h))
unfolding is_some
t_some None = grind arith
t_some (Some h) = (λ e. (h, refl), λ p. refl)

unfoldable pub has_slip : Option (ℕ × ℕ) → Bool
has_slip None = false
has_slip (Some s) = true

slip_by : (o : Option (ℕ × ℕ)) → has_slip o ≡ true → (s : ℕ × ℕ) × (o ≡ Some s)
unfolding has_slip
slip_by None e = absurd (false≢true e)
slip_by (Some s) e = (s, refl)

unfoldable pub clashb : Graph → Part → Part → Bool
clashb g p q = not (each_below (λ s. not (inb g p s && inb g q s)) g.steps)

unfoldable pub blocksb : Graph → List Row → History → ℕ → ℕ → Bool
blocksb g rows es i j = is_some (holder es j) && clashb g (row rows i).part (row rows j).part

-- the answers of takes and give-backs; other calls are not looked at
unfoldable pub rightb : Graph → List Row → History → Event → Bool
rightb g rows es (showing r) = false
rightb g rows es restarting = true
rightb g rows es (finding s r) = false
rightb g rows es (taking i h (ok u)) = ltb i (length rows) && each_below (λ j. not (blocksb g rows es i j)) (length rows)
rightb g rows es (taking i h (refused n p)) =
    (leb (length rows) i && (eqb n 61 && eqb p i)) ||
    (ltb i (length rows) && (eqb n 62 && (ltb p (length rows) && (blocksb g rows es i p && each_below (λ j. not (blocksb g rows es i j)) p))))
rightb g rows es (giving k (ok u)) = has_slip (slip es k) && not (ended es k)
rightb g rows es (giving k (refused n p)) = false
rightb g rows es (rejecting i h n p) = false

unfoldable pub answeredb : Graph → List Row → History → Bool
answeredb g rows [] = true
answeredb g rows (e ∷ es) = rightb g rows es e && answeredb g rows es

-- a test that not all numbers pass has one that fails
fails : (f : ℕ → Bool) (n : ℕ) → each_below f n ≡ false → (k : ℕ) × (k < n) × (f k ≡ false)
unfolding each_below
fails f zero e = absurd (true≢false e)
fails f (suc n) e = pick (cases_Bool (f n)) (fails f n)
  where
    pick : (f n ≡ true) ⊎ (f n ≡ false) → (each_below f n ≡ false → (k : ℕ) × (k < n) × (f k ≡ false)) → (k : ℕ) × (k < suc n) × (f k ≡ false)
    pick (inr d) more = (n, omega arith, d)
    pick (inl d) more = let r = more (rw d at e) in (r.0, omega (arith, r.1), r.2)

-- only rows are out
out_row : (g : Graph) (rows : List Row) (es : History) → Answered g rows es → (j h : ℕ) → holder es j ≡ Some h → j < length rows
out_row g rows [] a j h e = absurd (none-some h e)
out_row g rows (showing r ∷ es) a j h e = out_row g rows es a.1 j h e
out_row g rows (restarting ∷ es) a j h e = out_row g rows es a.1 j h e
out_row g rows (finding s r ∷ es) a j h e = out_row g rows es a.1 j h e
out_row g rows (taking i k (ok u) ∷ es) a j h e = go (eqb j i) refl e (out_row g rows es a.1 j h)
  where
    go : (b : Bool) → eqb j i ≡ b → cond b (Some k) (holder es j) ≡ Some h → (holder es j ≡ Some h → j < length rows) → j < length rows
    go true q f more = omega (arith, eqb-true j i q, a.0.0)
    go false q f more = more f
out_row g rows (taking i k (refused n p) ∷ es) a j h e = out_row g rows es a.1 j h e
out_row g rows (giving k (ok u) ∷ es) a j h e = go (is_for (slip es k) j) e (out_row g rows es a.1 j h)
  where
    go : (b : Bool) → cond b None (holder es j) ≡ Some h → (holder es j ≡ Some h → j < length rows) → j < length rows
    go true f more = absurd (none-some h f)
    go false f more = more f
out_row g rows (giving k (refused n p) ∷ es) a j h e = out_row g rows es a.1 j h e
out_row g rows (rejecting i k n p ∷ es) a j h e = out_row g rows es a.1 j h e

module _ (μ : Meaning) (sound : Sound μ.graph) (rows : List Row) (L : Listing μ rows) where
  abbrev g : Graph
  g = μ.graph

  fit : (i : ℕ) → i < length rows → Proper μ.graph (row rows i).part
  fit = proper μ sound rows L

  t_clash : (p q : Part) → Proper μ.graph p → Proper μ.graph q → Decides (clashb μ.graph p q) (Clash μ.graph p q)
  unfolding clashb
  t_clash p q cp cq = (there, back)
    where
      f : ℕ → Bool
      f s = not (inb μ.graph p s && inb μ.graph q s)

      there : not (each_below f μ.graph.steps) ≡ true → Clash μ.graph p q
      there e =
          let s = fails f μ.graph.steps (not-true (each_below f μ.graph.steps) e) in
          let h = and_parts (inb μ.graph p s.0) (inb μ.graph q s.0) (not-false (inb μ.graph p s.0 && inb μ.graph q s.0) s.2) in
          ∣ (s.0, (t_in μ.graph sound p cp s.0).0 h.0, (t_in μ.graph sound q cq s.0).0 h.1) ∣₁

      back : Clash μ.graph p q → not (each_below f μ.graph.steps) ≡ true
      back c = ∥∥₁_elim c (Bool-set (not (each_below f μ.graph.steps)) true) (λ s. not_from_false (each_below f μ.graph.steps) (false_from_ne_true (each_below f μ.graph.steps) (clear s)))
        where
          clear : (s : ℕ) × In μ.graph p s × In μ.graph q s → each_below f μ.graph.steps ≡ true → ⊥
          clear s e =
              let both = inb μ.graph p s.0 && inb μ.graph q s.0 in
              both_ways both (not-true both (each_at f μ.graph.steps e s.0 (step μ.graph sound p cp s.0 s.1)))
              (and_from (inb μ.graph p s.0) (inb μ.graph q s.0) ((t_in μ.graph sound p cp s.0).1 s.1) ((t_in μ.graph sound q cq s.0).1 s.2))

  t_blocks : (es : History) (i j : ℕ) → i < length rows → j < length rows → Decides (blocksb μ.graph rows es i j) (Blocks μ.graph rows es i j)
  unfolding blocksb
  t_blocks es i j li lj =
      Decides-and (is_some (holder es j)) (clashb μ.graph (row rows i).part (row rows j).part)
      (t_some (holder es j)) (t_clash (row rows i).part (row rows j).part (fit i li) (fit j lj))

  -- no row below m blocks row i
  none_by :
      (es : History) (i m : ℕ) → i < length rows → m ≤ length rows → each_below (λ j. not (blocksb μ.graph rows es i j)) m ≡ true → (j : ℕ) → j < m →
      Blocks μ.graph rows es i j → ⊥
  none_by es i m li lm e j lj b =
      both_ways (blocksb μ.graph rows es i j) (not-true (blocksb μ.graph rows es i j) (each_at (λ j. not (blocksb μ.graph rows es i j)) m e j lj)) ((t_blocks es i j li (omega arith)).1 b)

  right_by : (es : History) → Answered μ.graph rows es → (e : Event) → rightb μ.graph rows es e ≡ true → Right μ.graph rows es e
  unfolding rightb
  right_by es a (showing r) e = absurd (false≢true e)
  right_by es a restarting e = tt
  right_by es a (finding s r) e = absurd (false≢true e)
  right_by es a (taking i h (ok u)) e =
      let q = and_parts (ltb i (length rows)) (each_below (λ j. not (blocksb μ.graph rows es i j)) (length rows)) e in
      let li = ltb-true i (length rows) q.0 in
      (li, λ j b. none_by es i (length rows) li (omega arith) q.1 j (out_row μ.graph rows es a j b.0.0 b.0.1) b)
  right_by es a (taking i h (refused n p)) e = pick (or_cases _ _ e)
    where
      pick : ((leb (length rows) i && (eqb n 61 && eqb p i)) ≡ true) ⊎
          ((ltb i (length rows) && (eqb n 62 && (ltb p (length rows) && (blocksb μ.graph rows es i p && each_below (λ j. not (blocksb μ.graph rows es i j)) p)))) ≡ true) →
          ((length rows ≤ i) × (n ≡ 61) × (p ≡ i)) ⊎
          ((i < length rows) × (n ≡ 62) × Blocks μ.graph rows es i p × ((j : ℕ) → j < p → Blocks μ.graph rows es i j → ⊥))
      pick (inl q) = inl (grind (arith, nat_tests))
      pick (inr q) =
          let x = and_parts _ _ q in
          let y = and_parts _ _ x.1 in
          let z = and_parts _ _ y.1 in
          let w = and_parts _ _ z.1 in
          let li = ltb-true i (length rows) x.0 in
          let lp = ltb-true p (length rows) z.0 in
          inr (li, eqb-true n 62 y.0, (t_blocks es i p li lp).0 w.0, none_by es i p li (omega arith) w.1)
  right_by es a (giving k (ok u)) e =
      let h = and_parts (has_slip (slip es k)) (not (ended es k)) e in
      let s = slip_by (slip es k) h.0 in
      (s.0, (s.1, not-true (ended es k) h.1))
  right_by es a (giving k (refused n p)) e = absurd (false≢true e)
  right_by es a (rejecting i h n p) e = absurd (false≢true e)

  pub answered_by : (es : History) → answeredb μ.graph rows es ≡ true → Answered μ.graph rows es
  unfolding answeredb
  answered_by [] e = tt
  answered_by (x ∷ es) e =
      let h = and_parts (rightb μ.graph rows es x) (answeredb μ.graph rows es) e in
      let a = answered_by es h.1 in
      (right_by es a x h.0, a)
