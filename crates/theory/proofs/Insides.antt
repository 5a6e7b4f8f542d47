-- The inside of a fragment is what its two links cut off; fragments nest, and are told by their insides.
use Rattle.std.proofs.Common.{◌≡◌, ℕ, ◌<◌, ◌≤◌, Bool, true, false, ◌⊎◌, ◌↔◌, [], length, sym, refl, ap, ◌∙◌, subst, inl, inr, arith, ap₂}
use mathlib.Core.Path.{fun_ext}
use mathlib.Core.Logic.{∥∥₁_elim}
use mathlib.Core.HLevel.{⊥_prop}
use mathlib.Core.Bool.{xor, Bool-set}
use Rattle.std.proofs.lemmas.Bool.{cases_eq, cases_Bool, cases_lt, both_ways, false≢true}
use Rattle.model.specs.Meaning.{Graph, tail_of, head_of}
use Rattle.model.specs.Walks.{closed, Share, SingleEntryExit, Canonical, Inside, Sound}
use Rattle.model.specs.Parts.{Part, whole, fragment, In, Proper, Holds, Apart, Counted}
use Rattle.theory.specs.Tests.{reach, shareb}
use Rattle.theory.specs.Cuts.{Cut, Crossed}
use Rattle.theory.specs.Insides.{InsideCutOff, FragmentsNest, InsideTells}
use Rattle.theory.proofs.Walks.{avoids_no, no_avoids, walk_within}
use Rattle.theory.proofs.Reach.{reach_walk, walk_reach}
use Rattle.theory.proofs.Decide.{share_decided}
use Rattle.theory.proofs.Sides.{xor_same, share_sym, share_trans, share_refl, lone, cut_crossed}
use Rattle.theory.proofs.Nesting.{Disjoint, Subset, nested}
use Rattle.theory.proofs.Plans.{more, back_tail, closed_within, closed_strong, S, la, lb, the_cut, first_out, last_out, inside_reach, reach_inside}
use Rattle.theory.proofs.Lines.{canonical_apart}
use Rattle.theory.proofs.Counting.{exactly_all}

-- p and q differ just where x and y do: then p and x differ just where q and y do
xor_turn : (p q x y : Bool) → xor p q ≡ xor x y → xor p x ≡ xor q y
unfolding xor
xor_turn p q x y e = grind arith

module _ (g : Graph) (sound : Sound g) where
  pub inside_step : (a b s : ℕ) → a < length g.links → Inside g a b s → s < g.steps
  inside_step a b s la i = pick (cases_lt s g.steps)
    where
      pick : (s < g.steps) ⊎ (g.steps ≤ s) → s < g.steps
      pick (inl l) = l
      pick (inr l) =
          absurd (∥∥₁_elim i ⊥_prop (λ p.
          let w = walk_within g.steps g.links sound.within (head_of g.links a) s p.0 (sound.within a la).1 p.1 in omega arith))

  module _ (a b : ℕ) (r : SingleEntryExit g a b) where
    -- the test along the plan's own links
    pub decided : (s : ℕ) → (Inside g a b s ↔ (reach g.links g.steps b (head_of g.links a) s ≡ true))
    decided s = (
      λ i. ∥∥₁_elim i (Bool-set (reach g.links g.steps b (head_of g.links a) s) true) (λ w.
          walk_reach g.links b g.steps (head_of g.links a) s sound.within (sound.within a r.leads.1).1 (w.0, w.1, no_avoids b w.0 w.2)),
      λ e. let w = reach_walk g.links b g.steps (head_of g.links a) s e in ∣ (w.0, w.1, avoids_no b w.0 w.2) ∣₁,
    )

    -- and the one along the links of the closed plan
    by_closed : (s : ℕ) → (Inside g a b s ↔ (S g sound a b r s ≡ true))
    by_closed s = (inside_reach g sound a b r s, reach_inside g sound a b r s)

    alike : (s : ℕ) → S g sound a b r s ≡ reach g.links g.steps b (head_of g.links a) s
    alike s = let c = by_closed s in let d = decided s in grind arith

    cut_told : Cut (closed g) a b (reach g.links g.steps b (head_of g.links a))
    cut_told = subst (Cut (closed g) a b) (fun_ext alike) (the_cut g sound a b r)

    pub neither : (Inside g a b g.first → ⊥) × (Inside g a b g.last → ⊥)
    neither = (
      λ i. both_ways (S g sound a b r g.first) (first_out g sound a b r) (inside_reach g sound a b r g.first i),
      λ i. both_ways (S g sound a b r g.last) (ap (S g sound a b r) (sym (back_tail g)) ∙ last_out g sound a b r) (inside_reach g sound a b r g.last i),
    )

    -- two sets that the same links cross, both without first, are one
    only : (T : ℕ → Bool) → Crossed (closed g) T a b → T g.first ≡ false → (s : ℕ) → s < g.steps → (Inside g a b s ↔ (T s ≡ true))
    unfolding xor
    only T crossed out s l = (λ i. sym same ∙ (by_closed s).0 i, λ e. (by_closed s).1 (same ∙ e))
      where
        X : ℕ → Bool
        X v = xor (S g sound a b r v) (T v)

        still : (k : ℕ) → k < length (closed g) → X (tail_of (closed g) k) ≡ X (head_of (closed g) k)
        still k lk =
            xor_turn (S g sound a b r (tail_of (closed g) k)) (S g sound a b r (head_of (closed g) k)) (T (tail_of (closed g) k)) (T (head_of (closed g) k))
            (cut_crossed (closed g) a b (S g sound a b r) (the_cut g sound a b r) k lk ∙ sym (crossed k lk))

        same : S g sound a b r s ≡ T s
        same = pick (cases_Bool (xor (S g sound a b r s) (T s)))
          where
            pick : (xor (S g sound a b r s) (T s) ≡ true) ⊎ (xor (S g sound a b r s) (T s) ≡ false) → S g sound a b r s ≡ T s
            pick (inr e) = xor_same (S g sound a b r s) (T s) e
            pick (inl e) =
                absurd (lone (closed g) g.steps (closed_within g sound) (closed_strong g sound) X 0 (λ k lk _. still k lk) s g.first l sound.begins e
                (ap₂ xor (first_out g sound a b r) out))

  -- what has a row is within the plan, and has a step
  pub step : (p : Part) → Proper g p → (s : ℕ) → In g p s → s < g.steps
  step whole c s i = i
  step (fragment a b) c s i = inside_step a b s c.pair.leads.1 i

  pub some_step : (p : Part) → Proper g p → (s : ℕ) × In g p s
  some_step whole c = (g.first, sound.begins)
  some_step (fragment a b) c = (head_of g.links a, ∣ ([], refl, λ p. p) ∣₁)

  pub share? : (a c : ℕ) → a < length g.links → c < length g.links → Share (closed g) a c ⊎ (Share (closed g) a c → ⊥)
  share? a c la lc =
      let t = share_decided (closed g) g.steps a c (closed_within g sound) (omega (arith, more g)) (omega (arith, more g)) in
      grind (arith, cases_Bool (shareb (closed g) g.steps a c))

  pub nest : (p q : Part) → Proper g p → Proper g q → Apart g p q ⊎ (Holds g p q ⊎ Holds g q p)
  nest whole q c d = inr (inl (λ s i. step q d s i))
  nest (fragment a b) whole c d = inr (inr (λ s i. step (fragment a b) c s i))
  nest (fragment a b) (fragment x y) c d = pick (share? a x c.pair.leads.1 d.pair.leads.1)
    where
      Result : Type 0
      Result = Apart g (fragment a b) (fragment x y) ⊎ (Holds g (fragment a b) (fragment x y) ⊎ Holds g (fragment x y) (fragment a b))

      A : ℕ → Bool
      A = S g sound a b c.pair

      X : ℕ → Bool
      X = S g sound x y d.pair

      into : (s : ℕ) → Inside g a b s → S g sound a b c.pair s ≡ true
      into = inside_reach g sound a b c.pair

      into' : (s : ℕ) → Inside g x y s → S g sound x y d.pair s ≡ true
      into' = inside_reach g sound x y d.pair

      same : ((a ≡ x) × (b ≡ y)) ⊎ ((s : ℕ) → Inside g a b s → Inside g x y s → ⊥) → Result
      same (inl e) = inr (inl (λ s i. rw (e.0, e.1) i))
      same (inr h) = inl h

      differ : Disjoint g.steps A X ⊎ (Subset g.steps A X ⊎ Subset g.steps X A) → Result
      differ (inl h) = inl (λ s i j. h s (inside_step a b s c.pair.leads.1 i) (into s i) (into' s j))
      differ (inr (inl h)) = inr (inr (λ s i. reach_inside g sound x y d.pair s (h s (inside_step a b s c.pair.leads.1 i) (into s i))))
      differ (inr (inr h)) = inr (inl (λ s i. reach_inside g sound a b c.pair s (h s (inside_step x y s d.pair.leads.1 i) (into' s i))))

      pick : Share (closed g) a x ⊎ (Share (closed g) a x → ⊥) → Result
      pick (inl h) = same (canonical_apart g sound a b x y c d h)
      pick (inr n) =
          differ (nested (closed g) g.steps a b x y A X (closed_within g sound) (closed_strong g sound) (la g sound a b c.pair) (lb g sound a b c.pair)
          (la g sound x y d.pair) (lb g sound x y d.pair) (the_cut g sound a b c.pair) (the_cut g sound x y d.pair) n g.first sound.begins
          (first_out g sound a b c.pair) (first_out g sound x y d.pair))

  -- two with the same steps: the entry of the one crosses the set of the other, so it is one of its two links
  pub tells :
      (a b c d : ℕ) → Canonical g a b → Canonical g c d → Holds g (fragment a b) (fragment c d) → Holds g (fragment c d) (fragment a b) →
      (a ≡ c) × (b ≡ d)
  tells a b c d p q h k = pick (share? a c p.pair.leads.1 q.pair.leads.1)
    where
      same : (s : ℕ) → S g sound a b p.pair s ≡ S g sound c d q.pair s
      same s =
          let ab = by_closed a b p.pair s in
          let cd = by_closed c d q.pair s in
          let to = k s in
          let back = h s in
          grind arith

      crossing : (a ≡ c) ⊎ (a ≡ c → ⊥) → (a ≡ d) ⊎ (a ≡ d → ⊥) → Share (closed g) a c
      crossing (inl e) f = share_refl (closed g) a c e
      crossing (inr n) (inl f) = share_trans (closed g) a d c (share_refl (closed g) a d f) (share_sym (closed g) c d q.pair.shares)
      crossing (inr n) (inr m) =
          absurd (false≢true (sym (the_cut g sound a b p.pair).a_from ∙ same (tail_of (closed g) a) ∙
          (the_cut g sound c d q.pair).others a (la g sound a b p.pair) n m ∙ sym (same (head_of (closed g) a)) ∙ (the_cut g sound a b p.pair).a_to))

      apart : ((a ≡ c) × (b ≡ d)) ⊎ ((s : ℕ) → Inside g a b s → Inside g c d s → ⊥) → (a ≡ c) × (b ≡ d)
      apart (inl e) = e
      apart (inr n) = let s = some_step (fragment a b) p in absurd (n s.0 s.1 (k s.0 s.1))

      pick : Share (closed g) a c ⊎ (Share (closed g) a c → ⊥) → (a ≡ c) × (b ≡ d)
      pick (inl s) = apart (canonical_apart g sound a b c d p q s)
      pick (inr n) = absurd (n (crossing (cases_eq a c) (cases_eq a d)))

  -- of two that hold a third, the one with no more steps lies in the other
  pub least :
      (p q r : Part) (j k : ℕ) → Proper g p → Proper g q → Proper g r → Holds g p r → Holds g q r → Counted g p j → Counted g q k → j ≤ k →
      Holds g q p
  least p q r j k pp pq pr hp hq cp cq le = pick (nest p q pp pq)
    where
      pick : Apart g p q ⊎ (Holds g p q ⊎ Holds g q p) → Holds g q p
      pick (inl h) = let s = some_step r pr in absurd (h s.0 (hp s.0 s.1) (hq s.0 s.1))
      pick (inr (inl h)) = λ s i. exactly_all g.steps k j (In g q) (In g p) cq cp (λ s _. h s) le s (step p pp s i) i
      pick (inr (inr h)) = h

pub inside_cut_off : InsideCutOff
inside_cut_off = record { decided = decided; neither = neither; cut = cut_told; only = only }

pub fragments_nest : FragmentsNest
fragments_nest = nest

pub inside_tells : InsideTells
inside_tells = tells
