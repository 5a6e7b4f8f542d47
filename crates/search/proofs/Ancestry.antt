-- The ancestors of a number, over any function `par`.
use Rattle.std.proofs.Common.{◌≡◌, ℕ, zero, suc, ◌<◌, ◌≤◌, true, eqb, ◌⊎◌, sym, refl, ap, ◌∙◌, subst, inl, inr, arith}
use Rattle.std.proofs.lemmas.Bool.{cond_both, eqb-true, eqb-false, eq-eqb}
use Rattle.search.specs.Spans.{rise, Anc, anc}

pub anc_self : (par : ℕ → ℕ) (a b : ℕ) → a ≡ b → Anc par a b
anc_self par a b e = (zero, sym e)

pub anc_up : (par : ℕ → ℕ) (a b p : ℕ) → par b ≡ p → Anc par a p → Anc par a b
anc_up par a b p e h = (suc h.0, ap (λ (t : ℕ). rise par h.0 t) e ∙ h.1)

pub anc_below : (par : ℕ → ℕ) (a b : ℕ) → Anc par a b → (a ≡ b) ⊎ Anc par a (par b)
anc_below par a b ((zero, e)) = inl (sym e)
anc_below par a b ((suc m, e)) = inr (m, e)

rise_same : (par par' : ℕ → ℕ) (n : ℕ) → ((k : ℕ) → k < n → par k < n) → ((k : ℕ) → k < n → par' k ≡ par k) → (m b : ℕ) → b < n → rise par' m b ≡ rise par m b
rise_same par par' n lo e zero b lt = refl
rise_same par par' n lo e (suc m) b lt =
    ap (λ (t : ℕ). rise par' m t) (e b lt) ∙ rise_same par par' n lo e m (par b) (lo b lt)

-- what stands below n keeps its ancestors
pub anc_same : (par par' : ℕ → ℕ) (n : ℕ) → ((k : ℕ) → k < n → par k < n) → ((k : ℕ) → k < n → par' k ≡ par k) → (a b : ℕ) → b < n → Anc par a b → Anc par' a b
anc_same par par' n lo e a b lt h = (h.0, rise_same par par' n lo e h.0 b lt ∙ h.1)

rise_root : (par : ℕ → ℕ) → par 0 ≡ 0 → (m : ℕ) → rise par m 0 ≡ 0
rise_root par e zero = refl
rise_root par e (suc m) = ap (λ (t : ℕ). rise par m t) e ∙ rise_root par e m

pub anc_root : (par : ℕ → ℕ) → par 0 ≡ 0 → (a : ℕ) → Anc par a 0 → a ≡ 0
anc_root par e a h = sym h.1 ∙ rise_root par e h.0

pub anc_trans : (par : ℕ → ℕ) (a b c : ℕ) → Anc par a b → Anc par b c → Anc par a c
anc_trans par a b c h ((zero, e)) = subst (λ (t : ℕ). Anc par a t) (sym e) h
anc_trans par a b c h ((suc k, e)) = anc_up par a c (par c) refl (anc_trans par a b (par c) h (k, e))

pub anc_le : (par : ℕ → ℕ) → ((k : ℕ) → par k ≤ k) → (a b : ℕ) → Anc par a b → a ≤ b
anc_le par lo a b ((zero, e)) = omega arith
anc_le par lo a b ((suc m, e)) = let p = anc_le par lo a (par b) (m, e) in let q = lo b in omega arith

-- two ancestors of one number stand on one chain
pub anc_chain : (par : ℕ → ℕ) (a b c : ℕ) → Anc par a c → Anc par b c → Anc par a b ⊎ Anc par b a
anc_chain par a b c ((zero, e)) h = inr (subst (λ (t : ℕ). Anc par b t) e h)
anc_chain par a b c ((suc m, e)) ((zero, f)) = inl (subst (λ (t : ℕ). Anc par a t) f (suc m, e))
anc_chain par a b c ((suc m, e)) ((suc k, f)) = anc_chain par a b (par c) (m, e) (k, f)

-- the test says what Anc says
pub anc_sound : (par : ℕ → ℕ) (f a b : ℕ) → anc par f a b ≡ true → Anc par a b
anc_sound par zero a b = λ e. anc_self par a b (eqb-true a b e)
anc_sound par (suc f) a b =
    cond_both (eqb a b) true (anc par f a (par b)) (λ t. t ≡ true → Anc par a b)
    (λ q _. anc_self par a b (eqb-true a b q)) (λ q e. anc_up par a b (par b) refl (anc_sound par f a (par b) e))

pub anc_complete : (par : ℕ → ℕ) → par 0 ≡ 0 → ((k : ℕ) → 0 < k → par k < k) → (f a b : ℕ) → b ≤ f → Anc par a b → anc par f a b ≡ true
anc_complete par z lo zero a b le h =
    let b0 : b ≡ 0 = omega arith in
    eq-eqb a b (anc_root par z a (subst (λ (t : ℕ). Anc par a t) b0 h) ∙ sym b0)
anc_complete par z lo (suc f) a b le h =
    cond_both (eqb a b) true (anc par f a (par b)) (λ t. t ≡ true) (λ q. refl)
    (λ q. pick (λ pb g. anc_complete par z lo f a (par b) pb g) (eqb-false a b q) (anc_below par a b h))
  where
    pick : (par b ≤ f → Anc par a (par b) → anc par f a (par b) ≡ true) → (a ≡ b → ⊥) → (a ≡ b) ⊎ Anc par a (par b) → anc par f a (par b) ≡ true
    pick rec ne (inl e) = absurd (ne e)
    pick rec ne (inr g) = rec (up b refl) g
      where
        up : (k : ℕ) → k ≡ b → par b ≤ f
        up zero e = let y : par b ≡ 0 = ap par (sym e) ∙ z in omega arith
        up (suc k) e = let y = lo b (omega arith) in omega arith
