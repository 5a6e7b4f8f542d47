-- The lowest and the second lowest.
use Rattle.std.proofs.Common.{◌≡◌, ℕ, ◌<◌, ◌≤◌, max, ◌≢◌, ◌⊎◌, List, [], ◌∷◌, sym, refl, subst, inl, inr, arith}
use Rattle.std.proofs.lemmas.Bool.{cases_lt}
use Rattle.naming.specs.Words.{Elem, Once, low, second}

pub low_le : (n : ℕ) (h : ℕ → ℕ) (c : ℕ) (cs : List ℕ) → Elem c cs → low n h cs ≤ h c
low_le n h c [] m = absurd m
low_le n h c (b ∷ cs) m = grind (arith, low_le n h c cs)

pub low_some : (n : ℕ) (h : ℕ → ℕ) (cs : List ℕ) → low n h cs < n → (c : ℕ) × Elem c cs × (h c ≡ low n h cs)
low_some n h [] l = absurd (omega arith)
low_some n h (b ∷ cs) l = pick (cases_lt (low n h cs) (h b)) (low_some n h cs)
  where
    pick : (low n h cs < h b) ⊎ (h b ≤ low n h cs) → (low n h cs < n → (c : ℕ) × Elem c cs × (h c ≡ low n h cs)) →
        (c : ℕ) × Elem c (b ∷ cs) × (h c ≡ low n h (b ∷ cs))
    pick (inl g) next = let r = next (omega arith) in (r.0, inr r.1, omega (arith, r.2))
    pick (inr g) next = (b, inl refl, omega arith)

pub second_le : (n : ℕ) (h : ℕ → ℕ) (c d : ℕ) (cs : List ℕ) → Elem c cs → Elem d cs → c ≢ d → second n h cs ≤ max (h c) (h d)
second_le n h c d [] m q a = absurd m
second_le n h c d (b ∷ cs) m q a = grind (arith, low_le n h c cs, low_le n h d cs, second_le n h c d cs)

-- two different ones, the second lowest and one that is not above it
abbrev pub Two : ℕ → (ℕ → ℕ) → List ℕ → Type 0
Two s h cs = (c : ℕ) × (d : ℕ) × Elem c cs × Elem d cs × (c ≢ d) × (h c ≤ s) × (h d ≡ s)

pub second_some : (n : ℕ) (h : ℕ → ℕ) (cs : List ℕ) → Once cs → second n h cs < n → Two (second n h cs) h cs
second_some n h [] o l = absurd (omega arith)
second_some n h (b ∷ cs) o l =
    pick (cases_lt (second n h cs) (max (h b) (low n h cs))) (cases_lt (low n h cs) (h b)) (second_some n h cs o.1)
  where
    other : (c : ℕ) → Elem c cs → b ≢ c
    other c m e = o.0 (subst (λ (i : ℕ). Elem i cs) (sym e) m)

    pick : (second n h cs < max (h b) (low n h cs)) ⊎ (max (h b) (low n h cs) ≤ second n h cs) → (low n h cs < h b) ⊎ (h b ≤ low n h cs) →
        (second n h cs < n → Two (second n h cs) h cs) → Two (second n h (b ∷ cs)) h (b ∷ cs)
    pick (inl g) f next =
        let r = next (omega arith) in
        (r.0, r.1, inr r.2, inr r.3, r.4, omega (arith, r.5), omega (arith, r.6))
    pick (inr g) (inl f) next =
        let r = low_some n h cs (omega arith) in
        (r.0, b, inr r.1, inl refl, λ e. other r.0 r.1 (sym e), omega (arith, r.2), omega arith)
    pick (inr g) (inr f) next =
        let r = low_some n h cs (omega arith) in
        (b, r.0, inl refl, inr r.1, other r.0 r.1, omega arith, omega (arith, r.2))
