-- The links of a class stand in a line, and the fragments between neighbours have no step in common.
use Rattle.std.proofs.Common.{◌≡◌, ℕ, ◌<◌, Bool, true, false, not, ◌≢◌, ◌⊎◌, List, ◌∷◌, ◌++◌, length, sym, refl, ap, ◌∙◌, subst, inl, inr, arith}
use mathlib.Core.Logic.{∥∥₁_elim}
use mathlib.Core.HLevel.{⊥_prop}
use Rattle.std.proofs.lemmas.Bool.{cases_eq, cases_Bool, both_ways, not-true}
use Rattle.model.specs.Meaning.{Graph, tail_of, head_of}
use Rattle.model.specs.Walks.{Links, closed, Walks, Passes, Share, Leads, SingleEntryExit, Canonical, Inside, Sound}
use Rattle.theory.specs.Tests.{reach}
use Rattle.theory.specs.Cuts.{Cut}
use Rattle.theory.specs.Orders.{ClassInLine}
use Rattle.theory.proofs.Walks.{Avoids, avoids_no, no_avoids, passes?, avoids_append, passes_left, walks_append, split, leader_passed, led_avoided}
use Rattle.theory.proofs.Cuts.{stays, cut_keeps, flip}
use Rattle.theory.proofs.Cutting.{share_reach}
use Rattle.theory.proofs.Sides.{share_sym, share_trans}
use Rattle.theory.proofs.Plans.{more, lift_tail, lift, closed_within, closed_strong, S, the_cut, first_out, inside_reach}

-- a walk into the set passes its one link in
pub enters : (G : Links) (a b : ℕ) (X : ℕ → Bool) → Cut G a b X → (u v : ℕ) (ks : List ℕ) → Walks G u ks v → X u ≡ false → X v ≡ true → Passes a ks
enters G a b X c u v ks w s t = pick (passes? a ks)
  where
    Y : ℕ → Bool
    Y x = not (X x)

    pick : Passes a ks ⊎ Avoids a ks → Passes a ks
    pick (inl p) = p
    pick (inr h) = absurd (both_ways (X v) (not-true (X v) (stays G a Y (cut_keeps G b a Y (flip G a b X c)) u v ks w h (ap not s))) t)

module _ (g : Graph) (sound : Sound g) where
  pub leads_by : (a b : ℕ) → a ≢ b → a < length g.links → b < length g.links → (X : ℕ → Bool) → Cut (closed g) a b X → X g.first ≡ false → Leads g a b
  leads_by a b d la lb X c s = (d, la, lb, through)
    where
      through : (v : ℕ) (ks : List ℕ) → Walks g.links g.first ks v → Passes b ks → Passes a ks
      through v ks w p =
          let q = split g.links g.first v b ks w p in
          let x = tail_of g.links b in
          let h = enters (closed g) a b X c g.first x q.before (lift g g.first x q.before q.to) s (ap X (sym (lift_tail g b lb)) ∙ c.b_from) in
          subst (Passes a) (sym q.is) (passes_left a q.before (b ∷ q.after) h)

  pub line : (a b : ℕ) → a < length g.links → b < length g.links → a ≢ b → Share (closed g) a b → Leads g a b ⊎ Leads g b a
  line a b la lb d share = pick (cases_Bool (X g.first))
    where
      X : ℕ → Bool
      X v = reach (closed g) g.steps b (head_of (closed g) a) v

      c : Cut (closed g) a b X
      c = share_reach (closed g) g.steps a b (closed_within g sound) (closed_strong g sound) (omega (arith, more g)) (omega (arith, more g)) d share

      pick : (X g.first ≡ true) ⊎ (X g.first ≡ false) → Leads g a b ⊎ Leads g b a
      pick (inr s) = inl (leads_by a b d la lb X c s)
      pick (inl s) = inr (leads_by b a (λ e. d (sym e)) lb la (λ v. not (X v)) (flip (closed g) a b X c) (ap not s))

  -- from the first step to a step inside, without the exit
  way : (a b : ℕ) → Leads g a b → (s : ℕ) → Inside g a b s → ((ks : List ℕ) → Walks g.links g.first ks s → Avoids b ks → ⊥) → ⊥
  way a b leads s i none =
      ∥∥₁_elim (sound.between x (sound.within a leads.1).0) ⊥_prop (λ p. ∥∥₁_elim i ⊥_prop (λ q. joined p.0 p.2 q.0 q.1 q.2))
    where
      x : ℕ
      x = tail_of g.links a

      joined : (ks : List ℕ) → Walks g.links g.first ks x → (js : List ℕ) → Walks g.links (head_of g.links a) js s → (Passes b js → ⊥) → ⊥
      joined ks w js r h =
          let u = led_avoided g a b leads ks w in
          none (u.0 ++ (a ∷ js)) (walks_append g.links g.first x s u.0 (a ∷ js) u.1 (leads.1, refl, r))
          (avoids_append b u.0 (a ∷ js) u.3 (leads.0, no_avoids b js h))

  -- a pair that stands before another
  behind : (a b c d : ℕ) → SingleEntryExit g a b → SingleEntryExit g c d → (b ≡ c) ⊎ Leads g b c → (s : ℕ) → Inside g a b s → Inside g c d s → ⊥
  behind a b c d r q o s i j = way a b r.leads s i through
    where
      back : (ks : List ℕ) → (v : ℕ) → Walks g.links g.first ks v → (b ≡ c) ⊎ Leads g b c → Passes c ks → Passes b ks
      back ks v w (inl e) p = subst (λ (x : ℕ). Passes x ks) (sym e) p
      back ks v w (inr l) p = l.3 v ks w p

      through : (ks : List ℕ) → Walks g.links g.first ks s → Avoids b ks → ⊥
      through ks w h =
          avoids_no b ks h (back ks s w o
          (enters (closed g) c d (S g sound c d q) (the_cut g sound c d q) g.first s ks (lift g g.first s ks w) (first_out g sound c d q) (inside_reach g sound c d q s j)))

  -- of two links that lead each other one would have to come first
  pub not_both : (a b : ℕ) → Leads g a b → Leads g b a → ⊥
  not_both a b l r =
      ∥∥₁_elim (sound.between (tail_of g.links a) (sound.within a l.1).0) ⊥_prop (λ p.
      let u = led_avoided g a b l p.0 p.2 in
      avoids_no b u.0 u.3 (leader_passed g b a r u.0 u.1))

  -- a leads c in one class: then the exit b of a stands before c, or is c
  next : (a b c : ℕ) → Canonical g a b → c < length g.links → Share (closed g) a c → Leads g a c → (b ≡ c) ⊎ Leads g b c
  next a b c r lc share l = pick (cases_eq b c)
    where
      sides : Leads g b c ⊎ Leads g c b → (b ≡ c) ⊎ Leads g b c
      sides (inl h) = inr h
      sides (inr h) = absurd (r.no_third c share l h)

      pick : (b ≡ c) ⊎ (b ≡ c → ⊥) → (b ≡ c) ⊎ Leads g b c
      pick (inl e) = inl e
      pick (inr n) = sides (line b c r.pair.leads.2 lc n (share_trans (closed g) b a c (share_sym (closed g) a b r.pair.shares) share))

  -- two canonical fragments of one class are the same, or have no step in common
  pub canonical_apart : (a b c d : ℕ) → Canonical g a b → Canonical g c d → Share (closed g) a c →
      ((a ≡ c) × (b ≡ d)) ⊎ ((s : ℕ) → Inside g a b s → Inside g c d s → ⊥)
  canonical_apart a b c d r q share = pick (cases_eq a c) (cases_eq b d)
    where
      G : Links
      G = closed g

      Result : Type 0
      Result = ((a ≡ c) × (b ≡ d)) ⊎ ((s : ℕ) → Inside g a b s → Inside g c d s → ⊥)

      same_start : a ≡ c → Leads g b d ⊎ Leads g d b → ⊥
      same_start e (inl h) =
          q.no_third b (share_trans G c a b (share_sym G a c share) r.pair.shares) (subst (λ (x : ℕ). Leads g x b) e r.pair.leads) h
      same_start e (inr h) = r.no_third d (share_trans G a c d share q.pair.shares) (subst (λ (x : ℕ). Leads g x d) (sym e) q.pair.leads) h

      apart : Leads g a c ⊎ Leads g c a → Result
      apart (inl h) = inr (λ s i j. behind a b c d r.pair q.pair (next a b c r q.pair.leads.1 share h) s i j)
      apart (inr h) = inr (λ s i j. behind c d a b q.pair r.pair (next c d a q r.pair.leads.1 (share_sym G a c share) h) s j i)

      pick : (a ≡ c) ⊎ (a ≡ c → ⊥) → (b ≡ d) ⊎ (b ≡ d → ⊥) → Result
      pick (inl e) (inl f) = inl (e, f)
      pick (inl e) (inr n) =
          absurd (same_start e (line b d r.pair.leads.2 q.pair.leads.2 n
          (share_trans G b a d (share_sym G a b r.pair.shares) (share_trans G a c d share q.pair.shares))))
      pick (inr n) f = apart (line a c r.pair.leads.1 q.pair.leads.1 n share)

pub class_in_line : ClassInLine
class_in_line = record { one_leads = line; not_both = not_both; onward = onward }
  where
    onward : (g : Graph) → Sound g → (a b c : ℕ) → Leads g a b → Leads g b c → Leads g a c
    onward g sound a b c l r = (λ e. not_both g sound a b l (subst (Leads g b) (sym e) r), l.1, r.2, λ v ks w p. l.3 v ks w (r.3 v ks w p))
