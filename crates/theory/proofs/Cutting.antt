-- The hard direction: two links that share every closed walk are the only ones across some set.
use Rattle.std.proofs.Common.{◌≡◌, ℕ, ◌<◌, Bool, true, false, ◌≢◌, ◌⊎◌, List, [], ◌∷◌, ◌++◌, length, sym, refl, ap, ◌∙◌, inl, inr, arith}
use Rattle.theory.proofs.Decide.{unturned}
use mathlib.Core.Logic.{∥∥₁_elim}
use mathlib.Core.Bool.{Bool-set}
use Rattle.std.proofs.lemmas.Bool.{cases_eq, cases_Bool, both_ways}
use Rattle.model.specs.Meaning.{tail_of, head_of, EndsBelow}
use Rattle.model.specs.Walks.{Links, Walks, Share}
use Rattle.theory.specs.Tests.{reach}
use Rattle.theory.specs.Cuts.{Strong, Cut}
use Rattle.theory.proofs.Walks.{Avoids, avoids_no, avoids_append, walks_append, until, since}
use Rattle.theory.proofs.Reach.{reach_walk, walk_reach, reach_self, reach_keeps}
use Rattle.theory.proofs.Cuts.{Keeps, stays}

-- a walk that is known to be there can be computed
every_short : (G : Links) (u v : ℕ) (ks : List ℕ) → Walks G u ks v → Avoids (length G) ks
every_short G u v [] w = tt
every_short G u v (k ∷ ks) w = (omega (arith, w.0), every_short G (head_of G k) v ks w.2)

pub walk_of : (G : Links) (n u v : ℕ) → EndsBelow n G → u < n → ∥ ((ks : List ℕ) × Walks G u ks v) ∥₁ → (ks : List ℕ) × Walks G u ks v
walk_of G n u v within l some = (r.0, r.1)
  where
    yes_reach : reach G n (length G) u v ≡ true
    yes_reach =
        ∥∥₁_elim some (Bool-set (reach G n (length G) u v) true)
        (λ w. walk_reach G (length G) n u v within l (w.0, w.1, every_short G u v w.0 w.1))

    r : (ks : List ℕ) × Walks G u ks v × Avoids (length G) ks
    r = reach_walk G (length G) n u v yes_reach

-- a walk out of the set takes b out of it
pub leaves : (G : Links) (b : ℕ) (S : ℕ → Bool) → Keeps G b S → (u v : ℕ) (ks : List ℕ) → Walks G u ks v → S u ≡ true → S v ≡ false →
    (S (tail_of G b) ≡ true) × (S (head_of G b) ≡ false)
leaves G b S keeps u v [] w s t = absurd (both_ways (S v) t (cc))
leaves G b S keeps u v (k ∷ ks) w s t =
    let on = leaves G b S keeps (head_of G k) v ks w.2 in
    let kept = keeps k w.0 in
    grind (arith, cases_eq k b, cases_Bool (S (head_of G k)))

-- a walk without b that begins in the set never takes a, which begins outside
pub inner : (G : Links) (a b : ℕ) (S : ℕ → Bool) → Keeps G b S → S (tail_of G a) ≡ false →
    (u v : ℕ) (ks : List ℕ) → Walks G u ks v → Avoids b ks → S u ≡ true → Avoids a ks
inner G a b S keeps out u v [] w h s = tt
inner G a b S keeps out u v (k ∷ ks) w h s = (
  λ e. both_ways (S (tail_of G a)) out (ap (λ (x : ℕ). S (tail_of G x)) (sym e) ∙ here),
  inner G a b S keeps out (head_of G k) v ks w.2 h.1 (keeps k w.0 h.0 here),
)
  where
    here : S (tail_of G k) ≡ true
    here = ap S w.1 ∙ s

-- a walk without b that ends outside never takes a, which ends inside
pub outer : (G : Links) (a b : ℕ) (S : ℕ → Bool) → Keeps G b S → S (head_of G a) ≡ true →
    (u v : ℕ) (ks : List ℕ) → Walks G u ks v → Avoids b ks → S v ≡ false → Avoids a ks
outer G a b S keeps into u v [] w h t = tt
outer G a b S keeps into u v (k ∷ ks) w h t = (
  λ e. both_ways (S v) t (stays G b S keeps (head_of G k) v ks w.2 h.1 (ap (λ (x : ℕ). S (head_of G x)) e ∙ into)),
  outer G a b S keeps into (head_of G k) v ks w.2 h.1 t,
)

module _ (G : Links) (n a b : ℕ) (within : EndsBelow n G) (strong : Strong n G) (la : a < length G) (lb : b < length G) (apart : a ≢ b) (share : Share G a b) where
  -- the steps that the head of a reaches without b
  S : ℕ → Bool
  S v = reach G n b (head_of G a) v

  walk : (u v : ℕ) → u < n → v < n → (ks : List ℕ) × Walks G u ks v
  walk u v l m = walk_of G n u v within l (strong u v l m)

  S_keeps : Keeps G b S
  unfolding S
  S_keeps = reach_keeps G b n (head_of G a) within (within a la).1

  S_a_to : S (head_of G a) ≡ true
  unfolding S
  S_a_to = reach_self G b n (head_of G a) (within a la).1

  S_a_from : S (tail_of G a) ≡ false
  unfolding S
  S_a_from = unturned G n a b la apart (λ u ks w. (share u ks w).0)

  S_b : (S (tail_of G b) ≡ true) × (S (head_of G b) ≡ false)
  S_b =
      let w = walk (head_of G a) (tail_of G a) (within a la).1 (within a la).0 in
      leaves G b S S_keeps (head_of G a) (tail_of G a) w.0 w.1 S_a_to S_a_from

  -- from the head of b to an outer step, without a
  way_out : (v : ℕ) → v < n → S v ≡ false → (ks : List ℕ) × Walks G (head_of G b) ks v × Avoids a ks
  way_out v l t = pick (since G (head_of G b) v b w.0 w.1)
    where
      w : (ks : List ℕ) × Walks G (head_of G b) ks v
      w = walk (head_of G b) v (within b lb).1 l

      pick : Avoids b w.0 ⊎ ((js : List ℕ) × Walks G (head_of G b) js v × Avoids b js) → (ks : List ℕ) × Walks G (head_of G b) ks v × Avoids a ks
      pick (inl h) = (w.0, w.1, outer G a b S S_keeps S_a_to (head_of G b) v w.0 w.1 h t)
      pick (inr r) = (r.0, r.1, outer G a b S S_keeps S_a_to (head_of G b) v r.0 r.1 r.2 t)

  -- from an inner step to the tail of b, without a
  way_in : (u : ℕ) → u < n → S u ≡ true → (ks : List ℕ) × Walks G u ks (tail_of G b) × Avoids a ks
  way_in u l s =
      let w = walk u (tail_of G b) l (within b lb).0 in
      let r = until G u b w.0 w.1 in
      (r.0, r.1, inner G a b S S_keeps S_a_from u (tail_of G b) r.0 r.1 r.2 s)

  no_other : (k : ℕ) → k < length G → k ≢ a → S (tail_of G k) ≡ false → S (head_of G k) ≡ true → ⊥
  no_other k l na t h =
      let p = way_out (tail_of G k) (within k l).0 t in
      let q = way_in (head_of G k) (within k l).1 h in
      let round = p.0 ++ (k ∷ q.0) in
      let w : Walks G (tail_of G b) (b ∷ round) (tail_of G b) =
      (lb, refl, walks_append G (head_of G b) (tail_of G k) (tail_of G b) p.0 (k ∷ q.0) p.1 (l, refl, q.1)) in
      avoids_no a (b ∷ round) (λ e. apart (sym e), avoids_append a p.0 (k ∷ q.0) p.2 (na, q.2)) ((share (tail_of G b) (b ∷ round) (omega arith, w)).1 (inl refl))

  S_others : (k : ℕ) → k < length G → k ≢ a → k ≢ b → S (tail_of G k) ≡ S (head_of G k)
  S_others k l na nb =
      let keeps = S_keeps k l nb in
      let none = no_other k l na in
      grind (arith, cases_Bool (S (tail_of G k)), cases_Bool (S (head_of G k)))

  cut : Cut G a b S
  cut = record { a_from = S_a_from; a_to = S_a_to; b_from = S_b.0; b_to = S_b.1; others = S_others }

-- the set is the one that reach computes
pub share_reach : (G : Links) (n a b : ℕ) → EndsBelow n G → Strong n G → a < length G → b < length G → a ≢ b → Share G a b →
    Cut G a b (λ v. reach G n b (head_of G a) v)
unfolding S
share_reach G n a b within strong la lb apart share = cut G n a b within strong la lb apart share
