-- Sharing is decided by reaching.
use Rattle.std.proofs.Common.{◌≡◌, ℕ, ◌<◌, Bool, true, false, not, ◌&&◌, ◌||◌, eqb, ◌≢◌, ◌⊎◌, List, ◌∷◌, ◌++◌, length, sym, refl, subst, inl, inr, arith}
use Rattle.std.proofs.lemmas.Bool.{cases_eq, both_ways, or_cases, or_left, or_right, and_parts, not-true, eqb-true, eq-eqb, false_from_ne_true}
use Rattle.model.specs.Meaning.{tail_of, head_of}
use Rattle.model.specs.Walks.{Links, Walks, Passes, ClosedWalk, Share}
use Rattle.theory.specs.Tests.{reach, shareb}
use Rattle.theory.specs.Cuts.{ShareDecided}
use Rattle.theory.proofs.Walks.{Avoids, avoids_no, passes?, passes_append, passes_left, passes_right, walks_append, Split, split}
use Rattle.theory.proofs.Reach.{reach_walk, walk_reach}

-- where no walk leads back to a without b, a closed walk through a passes b
pub turned : (G : Links) (a b : ℕ) → ((ks : List ℕ) → Walks G (head_of G a) ks (tail_of G a) → Avoids b ks → ⊥) →
    (u : ℕ) (ks : List ℕ) → Walks G u ks u → Passes a ks → Passes b ks
turned G a b none u ks w p = subst (Passes b) (sym s.is) (pick (passes? b (s.after ++ s.before)))
  where
    s : Split G u u a ks
    s = split G u u a ks w p

    back : Passes b s.after ⊎ Passes b s.before → Passes b (s.before ++ (a ∷ s.after))
    back (inl q) = passes_right b s.before (a ∷ s.after) (inr q)
    back (inr q) = passes_left b s.before (a ∷ s.after) q

    pick : Passes b (s.after ++ s.before) ⊎ Avoids b (s.after ++ s.before) → Passes b (s.before ++ (a ∷ s.after))
    pick (inl q) = back (passes_append b s.after s.before q)
    pick (inr h) = absurd (none (s.after ++ s.before) (walks_append G (head_of G a) u (tail_of G a) s.after s.before s.from s.to) h)

-- and the other way round
pub unturned : (G : Links) (n a b : ℕ) → a < length G → a ≢ b → ((u : ℕ) (ks : List ℕ) → ClosedWalk G u ks → Passes a ks → Passes b ks) →
    reach G n b (head_of G a) (tail_of G a) ≡ false
unturned G n a b la apart share =
    false_from_ne_true (reach G n b (head_of G a) (tail_of G a)) (λ h.
    let r = reach_walk G b n (head_of G a) (tail_of G a) h in
    avoids_no b (a ∷ r.0) (apart, r.2) (share (tail_of G a) (a ∷ r.0) (omega arith, (la, refl, r.1)) (inl refl)))

pub share_decided : ShareDecided
unfolding shareb
share_decided G n a b within la lb = (λ e. there (or_cases (eqb a b) (test a b && test b a) e), λ s. back s (cases_eq a b))
  where
    test : ℕ → ℕ → Bool
    test x y = not (reach G n y (head_of G x) (tail_of G x))

    half : (x y : ℕ) → x < length G → test x y ≡ true → (u : ℕ) (ks : List ℕ) → Walks G u ks u → Passes x ks → Passes y ks
    half x y l e = turned G x y (λ ks w h.
        both_ways (reach G n y (head_of G x) (tail_of G x)) (not-true (reach G n y (head_of G x) (tail_of G x)) e)
        (walk_reach G y n (head_of G x) (tail_of G x) within (within x l).1 (ks, w, h)))

    there : (eqb a b ≡ true) ⊎ ((test a b && test b a) ≡ true) → Share G a b
    there (inl e) u ks w = let q = eqb-true a b e in (λ p. rw (← q) p, λ p. rw q p)
    there (inr e) u ks w = let q = and_parts (test a b) (test b a) e in (half a b la q.0 u ks w.1, half b a lb q.1 u ks w.1)

    back : Share G a b → (a ≡ b) ⊎ (a ≡ b → ⊥) → (eqb a b || (test a b && test b a)) ≡ true
    back s (inl e) = or_left (eqb a b) (test a b && test b a) (eq-eqb a b e)
    back s (inr d) =
        let x = unturned G n a b la d (λ u ks w. (s u ks w).0) in
        let y = unturned G n b a lb (λ e. d (sym e)) (λ u ks w. (s u ks w).1) in
        rw (x, y) (or_right (eqb a b) true refl)
