-- Sound plans: closed, every step reaches every step; and a single-entry single-exit pair cuts off its inside.
use Rattle.std.proofs.Common.{◌≡◌, ℕ, suc, ◌<◌, Bool, true, false, List, [], ◌∷◌, ◌++◌, length, get_or, sym, refl, ap, ◌∙◌, subst, arith}
use mathlib.Core.Logic.{∥∥₁_elim, ∥∥₁_map, ∥∥₁_prop}
use mathlib.Core.HLevel.{⊥_prop}
use mathlib.Core.Bool.{Bool-set}
use Rattle.std.proofs.lemmas.List.{get_or_append_left, get_or_push, length_push}
use Rattle.std.proofs.lemmas.Bool.{cases_eq, both_ways, false_from_ne_true}
use Rattle.model.specs.Meaning.{Graph, tail_of, head_of, EndsBelow}
use Rattle.model.specs.Walks.{closed, Walks, SingleEntryExit, Inside, Sound}
use Rattle.theory.specs.Tests.{reach}
use Rattle.theory.specs.Cuts.{Strong, Cut, ShareIsCut}
use Rattle.theory.proofs.Walks.{Avoids, avoids_no, no_avoids, walks_append, led_avoided}
use Rattle.theory.proofs.Reach.{reach_walk, walk_reach, reach_keeps}
use Rattle.theory.proofs.Cuts.{Keeps, stays}
use Rattle.theory.proofs.Cutting.{inner, share_reach}
use Rattle.theory.proofs.Sides.{share_crossed}

module _ (g : Graph) where
  abbrev pub m : ℕ
  m = length g.links

  pub more : length (closed g) ≡ suc m
  more = omega (arith, length_push g.links (g.last, g.first))

  pub front : (k : ℕ) → k < m → get_or (closed g) k (0, 0) ≡ get_or g.links k (0, 0)
  front k l = get_or_append_left g.links ((g.last, g.first) ∷ []) (0, 0) k l

  pub lift_tail : (k : ℕ) → k < m → tail_of (closed g) k ≡ tail_of g.links k
  lift_tail k l = ap (λ (p : ℕ × ℕ). p.0) (front k l)

  pub lift_head : (k : ℕ) → k < m → head_of (closed g) k ≡ head_of g.links k
  lift_head k l = ap (λ (p : ℕ × ℕ). p.1) (front k l)

  pub back_tail : tail_of (closed g) m ≡ g.last
  back_tail = ap (λ (p : ℕ × ℕ). p.0) (get_or_push g.links (g.last, g.first) (0, 0) m refl)

  pub back_head : head_of (closed g) m ≡ g.first
  back_head = ap (λ (p : ℕ × ℕ). p.1) (get_or_push g.links (g.last, g.first) (0, 0) m refl)

  -- a walk of the plan is one of the closed graph, and back if it avoids the closing link
  pub lift : (u v : ℕ) (ks : List ℕ) → Walks g.links u ks v → Walks (closed g) u ks v
  lift u v [] w = w
  lift u v (k ∷ ks) w =
      (omega (arith, w.0, more), lift_tail k w.0 ∙ w.1, subst (λ (x : ℕ). Walks (closed g) x ks v) (sym (lift_head k w.0)) (lift (head_of g.links k) v ks w.2))

  pub lower : (u v : ℕ) (ks : List ℕ) → Avoids m ks → Walks (closed g) u ks v → Walks g.links u ks v
  lower u v [] h w = w
  lower u v (k ∷ ks) h w =
      let l : k < m = omega (arith, w.0, more, h.0) in
      (l, sym (lift_tail k l) ∙ w.1, subst (λ (x : ℕ). Walks g.links x ks v) (lift_head k l) (lower (head_of (closed g) k) v ks h.1 w.2))

  module _ (sound : Sound g) where
    pub closed_within : EndsBelow g.steps (closed g)
    closed_within k l =
        let end = sound.ends in
        let begin = sound.begins in
        let tail = lift_tail k in
        let head = lift_head k in
        let old = sound.within k in
        let n = more in
        let back = back_tail in
        let forth = back_head in
        grind (arith, cases_eq k m)

    pub closed_strong : Strong g.steps (closed g)
    closed_strong u v l r =
        ∥∥₁_elim (sound.between u l) ∥∥₁_prop (λ p. ∥∥₁_map (sound.between v r) (λ q. (
          p.1 ++ (m ∷ q.0),
          walks_append (closed g) u g.last v p.1 (m ∷ q.0) (lift u g.last p.1 p.3)
              (omega (arith, more), back_tail, subst (λ (x : ℕ). Walks (closed g) x q.0 v) (sym back_head) (lift g.first v q.0 q.2)),
        )))

    -- what the head of a reaches without b
    module _ (a b : ℕ) (r : SingleEntryExit g a b) where
      abbrev pub S : ℕ → Bool
      S v = reach (closed g) g.steps b (head_of (closed g) a) v

      pub la : a < length (closed g)
      la = omega (arith, r.leads.1, more)

      pub lb : b < length (closed g)
      lb = omega (arith, r.leads.2, more)

      pub the_cut : Cut (closed g) a b S
      the_cut = share_reach (closed g) g.steps a b closed_within closed_strong la lb r.leads.0 r.shares

      pub keeps : Keeps (closed g) b S
      keeps = reach_keeps (closed g) b g.steps (head_of (closed g) a) closed_within (closed_within a la).1

      pub first_out : S g.first ≡ false
      first_out = false_from_ne_true (S g.first) none
        where
          x : ℕ
          x = tail_of g.links a

          no_walk : S g.first ≡ true → (ks : List ℕ) → Walks g.links g.first ks x → ⊥
          no_walk s ks w =
              let u = led_avoided g a b r.leads ks w in
              both_ways (S (tail_of (closed g) a)) the_cut.a_from
              (ap S (lift_tail a r.leads.1) ∙ stays (closed g) b S keeps g.first x u.0 (lift g.first x u.0 u.1) u.3 s)

          none : S g.first ≡ true → ⊥
          none s = ∥∥₁_elim (sound.between x (sound.within a r.leads.1).0) ⊥_prop (λ p. no_walk s p.0 p.2)

      pub last_out : S (tail_of (closed g) m) ≡ false
      last_out =
          false_from_ne_true (S (tail_of (closed g) m)) (λ s.
          let next = keeps m (omega (arith, more)) (λ e. absurd (omega (arith, r.leads.2, e))) s in
          both_ways (S g.first) first_out (ap S (sym back_head) ∙ next))

      pub inside_reach : (s : ℕ) → Inside g a b s → S s ≡ true
      inside_reach s i =
          ∥∥₁_elim i (Bool-set (S s) true) (λ p.
          walk_reach (closed g) b g.steps (head_of (closed g) a) s closed_within (closed_within a la).1
          (p.0, subst (λ (x : ℕ). Walks (closed g) x p.0 s) (sym (lift_head a r.leads.1)) (lift (head_of g.links a) s p.0 p.1), no_avoids b p.0 p.2))

      pub reach_inside : (s : ℕ) → S s ≡ true → Inside g a b s
      reach_inside s t =
          let p = reach_walk (closed g) b g.steps (head_of (closed g) a) s t in
          let h = inner (closed g) m b S keeps last_out (head_of (closed g) a) s p.0 p.1 p.2 the_cut.a_to in
          ∣ (p.0, subst (λ (x : ℕ). Walks g.links x p.0 s) (lift_head a r.leads.1) (lower (head_of (closed g) a) s p.0 h p.1), avoids_no b p.0 p.2) ∣₁

-- two links of a sound plan, closed, share a class exactly when they cut off a set of steps
pub share_is_cut : ShareIsCut
share_is_cut g sound a b la lb apart = share_crossed (closed g) g.steps a b (closed_within g sound) (closed_strong g sound) la lb apart
