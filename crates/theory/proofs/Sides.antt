-- Sets that few links cross, where every step reaches every step.
use Rattle.std.proofs.Common.{◌≡◌, ℕ, ◌<◌, Bool, true, false, not, ◌≢◌, ◌⊎◌, ◌↔◌, List, [], ◌∷◌, length, sym, refl, ap, ◌∙◌, subst, inl, inr, arith}
use mathlib.Core.Bool.{xor}
use Rattle.std.proofs.lemmas.Bool.{cases_eq, cases_Bool, not-true, not-false, true≢false, false≢true}
use Rattle.model.specs.Meaning.{tail_of, head_of, EndsBelow}
use Rattle.model.specs.Walks.{Links, Walks, Share}
use Rattle.theory.specs.Tests.{reach}
use Rattle.theory.specs.Cuts.{Strong, Cut, Crossed}
use Rattle.theory.proofs.Cuts.{cut_shares}
use Rattle.theory.proofs.Cutting.{walk_of, share_reach}
use Rattle.std.proofs.lemmas.Bool.Decides.{nat_tests}

pub xor_same : (a b : Bool) → xor a b ≡ false → a ≡ b
unfolding xor
xor_same a b e = grind arith

pub share_refl : (G : Links) (a b : ℕ) → a ≡ b → Share G a b
share_refl G a b e = subst (Share G a) e (λ u ks w. (λ p. p, λ p. p))

pub share_sym : (G : Links) (a b : ℕ) → Share G a b → Share G b a
share_sym G a b s u ks w = ((s u ks w).1, (s u ks w).0)

pub share_trans : (G : Links) (a b c : ℕ) → Share G a b → Share G b c → Share G a c
share_trans G a b c s t u ks w = (λ p. (t u ks w).0 ((s u ks w).0 p), λ p. (s u ks w).1 ((t u ks w).1 p))

-- a link by which a walk leaves a set
abbrev pub Exit : Links → (ℕ → Bool) → Type 0
Exit G X = (k : ℕ) × (k < length G) × (X (tail_of G k) ≡ true) × (X (head_of G k) ≡ false)

pub exit : (G : Links) (X : ℕ → Bool) (u v : ℕ) (ks : List ℕ) → Walks G u ks v → X u ≡ true → X v ≡ false → Exit G X
exit G X u v [] w s t = absurd (true≢false (cc))
exit G X u v (k ∷ ks) w s t = pick (cases_Bool (X (head_of G k))) (λ h. exit G X (head_of G k) v ks w.2 h t)
  where
    pick : (X (head_of G k) ≡ true) ⊎ (X (head_of G k) ≡ false) → (X (head_of G k) ≡ true → Exit G X) → Exit G X
    pick (inl h) next = next h
    pick (inr h) next = (k, w.0, cc, h)

-- no link but a and c crosses the set
abbrev pub NoOther : Links → (ℕ → Bool) → ℕ → ℕ → Type 0
NoOther G X a c = (k : ℕ) → k < length G → k ≢ a → k ≢ c → X (tail_of G k) ≡ X (head_of G k)

module _ (G : Links) (n : ℕ) (within : EndsBelow n G) (strong : Strong n G) where
  out : (X : ℕ → Bool) (u v : ℕ) → u < n → v < n → X u ≡ true → X v ≡ false → Exit G X
  out X u v l m s t = let w = walk_of G n u v within l (strong u v l m) in exit G X u v w.0 w.1 s t

  one_of : (X : ℕ → Bool) (a c k : ℕ) → NoOther G X a c → k < length G → (X (tail_of G k) ≡ X (head_of G k) → ⊥) → (k ≡ a) ⊎ (k ≡ c)
  one_of X a c k only l cross = let o = only k l in grind (arith, cases_eq k a, cases_eq k c)

  -- both ways across a set, by a and c
  pub two : (X : ℕ → Bool) (a c : ℕ) → NoOther G X a c → (u v : ℕ) → u < n → v < n → X u ≡ true → X v ≡ false →
      (a ≢ c) × (Cut G a c X ⊎ Cut G c a X)
  two X a c only u v l m s t =
      pick (one_of X a c o.0 only o.1 (λ e. true≢false (sym o.2 ∙ e ∙ o.3)))
      (one_of X a c i.0 only i.1 (λ e. false≢true (sym in_from ∙ e ∙ in_to)))
    where
      o : Exit G X
      o = out X u v l m s t

      i : Exit G (λ x. not (X x))
      i = out (λ x. not (X x)) v u m l (ap not t) (ap not s)

      in_from : X (tail_of G i.0) ≡ false
      in_from = not-true (X (tail_of G i.0)) i.2

      in_to : X (head_of G i.0) ≡ true
      in_to = not-false (X (head_of G i.0)) i.3

      clash : (x : ℕ) → o.0 ≡ x → i.0 ≡ x → ⊥
      clash x e f = true≢false (sym o.2 ∙ ap (λ (k : ℕ). X (tail_of G k)) (e ∙ sym f) ∙ in_from)

      made : (x y : ℕ) → NoOther G X x y → i.0 ≡ x → o.0 ≡ y → (x ≢ y) × Cut G x y X
      made x y only' e f = (
        λ q. clash x (f ∙ sym q) e,
        record { a_from = rw (← e) in_from; a_to = rw (← e) in_to; b_from = rw (← f) o.2; b_to = rw (← f) o.3; others = only' },
      )

      pick : (o.0 ≡ a) ⊎ (o.0 ≡ c) → (i.0 ≡ a) ⊎ (i.0 ≡ c) → (a ≢ c) × (Cut G a c X ⊎ Cut G c a X)
      pick (inl e) (inl f) = absurd (clash a e f)
      pick (inr e) (inr f) = absurd (clash c e f)
      pick (inr e) (inl f) = let r = made a c only f e in (r.0, inl r.1)
      pick (inl e) (inr f) = let r = made c a (λ k l p q. only k l q p) f e in (λ q. r.0 (sym q), inr r.1)

  pub two_share : (X : ℕ → Bool) (a c : ℕ) → NoOther G X a c → (u v : ℕ) → u < n → v < n → X u ≡ true → X v ≡ false → Share G a c
  two_share X a c only u v l m s t = pick (two X a c only u v l m s t).1
    where
      pick : Cut G a c X ⊎ Cut G c a X → Share G a c
      pick (inl r) = cut_shares G a c X r
      pick (inr r) = share_sym G c a (cut_shares G c a X r)

  -- a set that one link at most crosses has all steps or none
  pub lone : (X : ℕ → Bool) (e : ℕ) → ((k : ℕ) → k < length G → k ≢ e → X (tail_of G k) ≡ X (head_of G k)) →
      (u v : ℕ) → u < n → v < n → X u ≡ true → X v ≡ false → ⊥
  lone X e only u v l m s t = (two X e e (λ k l p _. only k l p) u v l m s t).0 refl

  pub crossed_share : (a b : ℕ) → a < length G → (X : ℕ → Bool) → Crossed G X a b → Share G a b
  unfolding xor
  crossed_share a b la X parts = pick (cases_Bool (X (tail_of G a))) (cases_Bool (X (head_of G a)))
    where
      only : NoOther G X a b
      only k l p q = let e = parts k l in grind (arith, nat_tests)

      crossed : X (tail_of G a) ≡ X (head_of G a) → ⊥
      crossed e = let c = parts a la in grind (arith, nat_tests)

      pick : (X (tail_of G a) ≡ true) ⊎ (X (tail_of G a) ≡ false) → (X (head_of G a) ≡ true) ⊎ (X (head_of G a) ≡ false) → Share G a b
      pick (inl s) (inl t) = absurd (crossed (s ∙ sym t))
      pick (inr s) (inr t) = absurd (crossed (s ∙ sym t))
      pick (inl s) (inr t) = two_share X a b only (tail_of G a) (head_of G a) (within a la).0 (within a la).1 s t
      pick (inr s) (inl t) = two_share X a b only (head_of G a) (tail_of G a) (within a la).1 (within a la).0 t s

pub cut_crossed : (G : Links) (a b : ℕ) (S : ℕ → Bool) → Cut G a b S → Crossed G S a b
unfolding xor
cut_crossed G a b S c k l = let o = c.others k l in grind (arith, nat_tests)

pub share_crossed :
    (G : Links) (n a b : ℕ) → EndsBelow n G → Strong n G → a < length G → b < length G → a ≢ b →
    (Share G a b ↔ ((S : ℕ → Bool) × Crossed G S a b))
share_crossed G n a b within strong la lb apart = (
  λ s. (reach G n b (head_of G a), cut_crossed G a b (reach G n b (head_of G a)) (share_reach G n a b within strong la lb apart s)),
  λ r. crossed_share G n within strong a b la r.0 r.1,
)
