-- The test of reaching is right: what it finds has a walk, and it finds every walk.
use Rattle.std.proofs.Common.{◌≡◌, ℕ, zero, suc, ◌+◌, ◌<◌, ◌≤◌, Bool, true, false, ◌≢◌, ◌⊎◌, List, [], ◌∷◌, ◌++◌, length, set, replicate, sym, refl, ap, ◌∙◌, subst, inl, inr, arith, length-set, get_or-set_same}
use Rattle.theory.proofs.Elements.{get_or_replicate_same}
use Rattle.std.proofs.lemmas.Bool.{cases_eq, cases_Bool, both_ways}
use Rattle.model.specs.Meaning.{tail_of, head_of, EndsBelow}
use Rattle.model.specs.Walks.{Links, Walks, Passes}
use Rattle.theory.specs.Tests.{has, relax, sweep, count, rounds, reached, reach}
use Rattle.theory.specs.Cuts.{ReachDecided}
use Rattle.theory.proofs.Walks.{Avoids, passes?, avoids_no, no_avoids, avoids_append, walks_append}
use Rattle.std.proofs.lemmas.List.{length-replicate, get_or-replicate}
use Rattle.std.proofs.lemmas.Bool.Decides.{nat_tests}
use Rattle.std.proofs.lemmas.Grind.{elements}

pub count_le : (S : List Bool) → count S ≤ length S
count_le [] = omega arith
count_le (x ∷ xs) = grind (arith, count_le xs)

-- a step that is in already
pub set_has : (S : List Bool) (v : ℕ) → has S v ≡ true → set S v true ≡ S
set_has [] v h = refl
set_has (x ∷ xs) zero h = grind arith
set_has (x ∷ xs) (suc v) h = grind (arith, set_has xs v h)

-- a new step
pub set_new : (S : List Bool) (v : ℕ) → has S v ≡ false → v < length S → count S < count (set S v true)
set_new [] v h l = omega arith
set_new (x ∷ xs) zero h l = grind arith
set_new (x ∷ xs) (suc v) h l = grind (arith, set_new xs v h (omega arith))

-- what a set, with one step more, has
pub set_cases : (S : List Bool) (x v : ℕ) → has (set S x true) v ≡ true → (v ≡ x) ⊎ (has S v ≡ true)
set_cases S x v h = grind (arith, elements)

pub set_keeps : (S : List Bool) (x v : ℕ) → has S v ≡ true → has (set S x true) v ≡ true
set_keeps [] x v h = h
set_keeps (y ∷ ys) zero zero h = refl
set_keeps (y ∷ ys) zero (suc v) h = h
set_keeps (y ∷ ys) (suc x) zero h = h
set_keeps (y ∷ ys) (suc x) (suc v) h = set_keeps ys x v h

pub set_le : (S : List Bool) (x : ℕ) → count S ≤ count (set S x true)
set_le [] x = omega arith
set_le (y ∷ ys) zero = grind arith
set_le (y ∷ ys) (suc x) = grind (arith, set_le ys x)

module _ (G : Links) (a : ℕ) where
  -- the three things that a link can do
  pub record Relaxed (k : ℕ) (S R : List Bool) : Type 0 where
    pub taken : k ≢ a
    pub tail_in : has S (tail_of G k) ≡ true
    pub is : R ≡ set S (head_of G k) true

  pub relax_cases : (k : ℕ) (S : List Bool) →
      Relaxed k S (relax G a k S) ⊎ ((relax G a k S ≡ S) × (k ≢ a → has S (tail_of G k) ≡ true → ⊥))
  unfolding relax
  relax_cases k S = grind (arith, nat_tests)

  -- what taking a link adds, and what it keeps
  relax_length : (k : ℕ) (S : List Bool) → length (relax G a k S) ≡ length S
  relax_length k S = let s = length-set S (head_of G k) true in grind (arith, relax_cases k S)

  relax_le : (k : ℕ) (S : List Bool) → count S ≤ count (relax G a k S)
  relax_le k S = let s = set_le S (head_of G k) in grind (arith, relax_cases k S)

  relax_keeps : (k : ℕ) (S : List Bool) (v : ℕ) → has S v ≡ true → has (relax G a k S) v ≡ true
  relax_keeps k S v h = let s = set_keeps S (head_of G k) v h in grind (arith, relax_cases k S)

  sweep_length : (k : ℕ) (S : List Bool) → length (sweep G a k S) ≡ length S
  unfolding sweep
  sweep_length zero S = refl
  sweep_length (suc k) S = relax_length k (sweep G a k S) ∙ sweep_length k S

  sweep_keeps : (k : ℕ) (S : List Bool) (v : ℕ) → has S v ≡ true → has (sweep G a k S) v ≡ true
  unfolding sweep
  sweep_keeps zero S v h = h
  sweep_keeps (suc k) S v h = relax_keeps k (sweep G a k S) v (sweep_keeps k S v h)

  -- a round finds nothing, and that is all; or it finds something
  abbrev Round : ℕ → List Bool → List Bool → Type 0
  Round n S R =
      ((R ≡ S) × (count (sweep G a (length G) S) ≡ count S)) ⊎ ((R ≡ rounds G a n (sweep G a (length G) S)) × (count (sweep G a (length G) S) ≢ count S))

  rounds_step : (n : ℕ) (S : List Bool) → Round n S (rounds G a (suc n) S)
  unfolding rounds
  rounds_step n S = grind (arith, nat_tests)

  -- what a set keeps through a sweep it keeps through the rounds
  rounds_keep : (Q : List Bool → Type 0) → ((S : List Bool) → Q S → Q (sweep G a (length G) S)) → (n : ℕ) (S : List Bool) → Q S → Q (rounds G a n S)
  unfolding rounds
  rounds_keep Q next zero S q = q
  rounds_keep Q next (suc n) S q = pick (rounds_step n S) (rounds_keep Q next n (sweep G a (length G) S) (next S q))
    where
      pick : Round n S (rounds G a (suc n) S) → Q (rounds G a n (sweep G a (length G) S)) → Q (rounds G a (suc n) S)
      pick (inl r) h = subst Q (sym r.0) q
      pick (inr r) h = subst Q (sym r.0) h

  rounds_length : (n : ℕ) (S : List Bool) → length (rounds G a n S) ≡ length S
  rounds_length n S = rounds_keep (λ R. length R ≡ length S) (λ R e. sweep_length (length G) R ∙ e) n S refl

  rounds_keeps : (n : ℕ) (S : List Bool) (v : ℕ) → has S v ≡ true → has (rounds G a n S) v ≡ true
  rounds_keeps n S v h = rounds_keep (λ R. has R v ≡ true) (λ R k. sweep_keeps (length G) R v k) n S h

  -- the first k links lead nowhere new
  abbrev pub Closed : ℕ → List Bool → Type 0
  Closed k S = (j : ℕ) → j < k → j ≢ a → has S (tail_of G j) ≡ true → has S (head_of G j) ≡ true

  closed_more : (k : ℕ) (S : List Bool) → Closed k S → (k ≢ a → has S (tail_of G k) ≡ true → has S (head_of G k) ≡ true) → Closed (suc k) S
  closed_more k S cl new j l n t = let old = cl j in grind (arith, cases_eq j k)

  abbrev Swept : ℕ → List Bool → List Bool → Type 0
  Swept k S R = ((R ≡ S) × Closed k S) ⊎ (count S < count R)

  sweep_cases : (k : ℕ) (S : List Bool) → ((j : ℕ) → j < k → head_of G j < length S) → Swept k S (sweep G a k S)
  unfolding sweep
  sweep_cases zero S room = inl (refl, λ j l. absurd (omega arith))
  sweep_cases (suc k) S room = step (sweep G a k S) (sweep_cases k S (λ j l. room j (omega arith)))
    where
      new : Closed k S → Relaxed k S (relax G a k S) ⊎ ((relax G a k S ≡ S) × (k ≢ a → has S (tail_of G k) ≡ true → ⊥)) →
          (has S (head_of G k) ≡ true) ⊎ (has S (head_of G k) ≡ false) → Swept (suc k) S (relax G a k S)
      new cl (inr q) h = inl (q.0, closed_more k S cl (λ n t. absurd (q.1 n t)))
      new cl (inl r) (inl h) = inl (r.is ∙ set_has S (head_of G k) h, closed_more k S cl (λ _ _. h))
      new cl (inl r) (inr h) = inr (rw r.is (set_new S (head_of G k) h (room k (omega arith))))

      step : (R : List Bool) → Swept k S R → Swept (suc k) S (relax G a k R)
      step R (inl q) = rw q.0 (new q.1 (relax_cases k S) (cases_Bool (has S (head_of G k))))
      step R (inr l) = inr (omega (arith, relax_le k R))

  -- n rounds come to rest, or have found n steps
  rounds_cases : (n : ℕ) (S : List Bool) → ((j : ℕ) → j < length G → head_of G j < length S) →
      Closed (length G) (rounds G a n S) ⊎ (count S + n ≤ count (rounds G a n S))
  unfolding rounds
  rounds_cases zero S room = inr (omega arith)
  rounds_cases (suc n) S room =
      step (rounds_step n S) (sweep_cases (length G) S room)
      (rounds_cases n (sweep G a (length G) S) (λ j l. rw (sweep_length (length G) S) (room j l)))
    where
      R : List Bool
      R = sweep G a (length G) S

      Out : List Bool → Type 0
      Out T = Closed (length G) T ⊎ (count S + suc n ≤ count T)

      step : Round n S (rounds G a (suc n) S) → Swept (length G) S R → Closed (length G) (rounds G a n R) ⊎ (count R + n ≤ count (rounds G a n R)) →
          Out (rounds G a (suc n) S)
      step (inl r) (inl q) h = subst Out (sym r.0) (inl q.1)
      step (inl r) (inr l) h = absurd (omega (arith, r.1, l))
      step (inr r) (inl q) h = absurd (r.1 (ap count q.0))
      step (inr r) (inr l) (inl cl) = subst Out (sym r.0) (inl cl)
      step (inr r) (inr l) (inr m) = subst Out (sym r.0) (inr (omega (arith, l, m)))

  -- the start, and that n rounds from it come to rest
  start : ℕ → ℕ → List Bool
  start n u = set (replicate n false) u true

  start_length : (n u : ℕ) → length (start n u) ≡ n
  unfolding start
  start_length n u = length-set (replicate n false) u true ∙ length-replicate n false

  start_has : (n u : ℕ) → u < n → has (start n u) u ≡ true
  unfolding start
  start_has n u l = get_or-set_same (replicate n false) u true false (rw length-replicate l)

  start_count : (n u : ℕ) → u < n → 1 ≤ count (start n u)
  unfolding start
  start_count n u l =
      let s : count (replicate n false) < count (set (replicate n false) u true) =
      set_new (replicate n false) u (get_or-replicate n u false false l) (rw length-replicate l) in
      omega arith

  pub reached_closed : (n u : ℕ) → EndsBelow n G → u < n → Closed (length G) (reached G n a u)
  unfolding reached start
  reached_closed n u within l =
      pick (rounds_cases n (start n u) (λ j m. rw (start_length n u) (within j m).1))
    where
      pick :
          Closed (length G) (rounds G a n (start n u)) ⊎ (count (start n u) + n ≤ count (rounds G a n (start n u))) →
          Closed (length G) (rounds G a n (start n u))
      pick (inl cl) = cl
      pick (inr m) =
          let small : count (rounds G a n (start n u)) ≤ n =
          rw (rounds_length n (start n u) ∙ start_length n u) at (count_le (rounds G a n (start n u))) in
          absurd (omega (arith, start_count n u l))

  pub reached_self : (n u : ℕ) → u < n → has (reached G n a u) u ≡ true
  unfolding reached start
  reached_self n u l = rounds_keeps n (start n u) u (start_has n u l)

  -- every walk that avoids a stays in a closed set
  pub found : (S : List Bool) → Closed (length G) S → (u v : ℕ) (ks : List ℕ) → Walks G u ks v → Avoids a ks → has S u ≡ true → has S v ≡ true
  found S cl u v [] w h s = ap (has S) (sym w) ∙ s
  found S cl u v (k ∷ ks) w h s = found S cl (head_of G k) v ks w.2 h.1 (cl k w.0 h.0 (ap (has S) w.1 ∙ s))

  -- what is in the set has a walk
  abbrev pub Led : ℕ → ℕ → Type 0
  Led u v = (ks : List ℕ) × Walks G u ks v × Avoids a ks

  abbrev LedAll : ℕ → List Bool → Type 0
  LedAll u S = (v : ℕ) → has S v ≡ true → Led u v

  led_more : (u k : ℕ) → k < length G → k ≢ a → Led u (tail_of G k) → Led u (head_of G k)
  led_more u k l n r =
      (r.0 ++ (k ∷ []), walks_append G u (tail_of G k) (head_of G k) r.0 (k ∷ []) r.1 (l, refl, refl), avoids_append a r.0 (k ∷ []) r.2 (n, tt))

  relax_led : (u k : ℕ) (S : List Bool) → k < length G → LedAll u S → LedAll u (relax G a k S)
  relax_led u k S l led v h = pick (relax_cases k S)
    where
      last : k ≢ a → has S (tail_of G k) ≡ true → (v ≡ head_of G k) ⊎ (has S v ≡ true) → Led u v
      last n t (inl e) = rw e (led_more u k l n (led (tail_of G k) t))
      last n t (inr o) = led v o

      pick : Relaxed k S (relax G a k S) ⊎ ((relax G a k S ≡ S) × (k ≢ a → has S (tail_of G k) ≡ true → ⊥)) → Led u v
      pick (inl r) = last r.taken r.tail_in (set_cases S (head_of G k) v (rw r.is at h))
      pick (inr q) = led v (rw q.0 at h)

  sweep_led : (u k : ℕ) (S : List Bool) → k ≤ length G → LedAll u S → LedAll u (sweep G a k S)
  unfolding sweep
  sweep_led u zero S l led = led
  sweep_led u (suc k) S l led = relax_led u k (sweep G a k S) l (sweep_led u k S (omega arith) led)

  rounds_led : (u n : ℕ) (S : List Bool) → LedAll u S → LedAll u (rounds G a n S)
  rounds_led u n S led = rounds_keep (LedAll u) (λ R h. sweep_led u (length G) R (omega arith) h) n S led

  pub reached_led : (n u v : ℕ) → has (reached G n a u) v ≡ true → Led u v
  unfolding reached
  reached_led n u v h = rounds_led u n (set (replicate n false) u true) begin v h
    where
      pick : (w : ℕ) → (w ≡ u) ⊎ (has (replicate n false) w ≡ true) → Led u w
      pick w (inl e) = ([], sym e, tt)
      pick w (inr t) = absurd (both_ways (has (replicate n false) w) (get_or_replicate_same n w false) t)

      begin : LedAll u (set (replicate n false) u true)
      begin w t = pick w (set_cases (replicate n false) u w t)

  pub reach_walk : (n u v : ℕ) → reach G n a u v ≡ true → Led u v
  unfolding reach
  reach_walk n u v h = reached_led n u v h

  pub walk_reach : (n u v : ℕ) → EndsBelow n G → u < n → Led u v → reach G n a u v ≡ true
  unfolding reach
  walk_reach n u v within l r = found (reached G n a u) (reached_closed n u within l) u v r.0 r.1 r.2 (reached_self n u l)

  pub reach_self : (n u : ℕ) → u < n → reach G n a u u ≡ true
  unfolding reach
  reach_self n u l = reached_self n u l

  pub reach_keeps :
      (n u : ℕ) → EndsBelow n G → u < n → (k : ℕ) → k < length G → k ≢ a → reach G n a u (tail_of G k) ≡ true → reach G n a u (head_of G k) ≡ true
  unfolding reach
  reach_keeps n u within l = reached_closed n u within l

  -- every walk to a step that is not reached without a passes a
  pub passes_by : (n u v : ℕ) → EndsBelow n G → u < n → reach G n a u v ≡ false → (ks : List ℕ) → Walks G u ks v → Passes a ks
  passes_by n u v within l out ks w = pick (passes? a ks)
    where
      pick : Passes a ks ⊎ Avoids a ks → Passes a ks
      pick (inl p) = p
      pick (inr h) = absurd (both_ways (reach G n a u v) out (walk_reach n u v within l (ks, w, h)))

pub reach_decided : ReachDecided
reach_decided G n a u v within l = (
  λ h. let r = reach_walk G a n u v h in (r.0, r.1, avoids_no a r.0 r.2),
  λ r. walk_reach G a n u v within l (r.0, r.1, no_avoids a r.0 r.2),
)
