-- What is inside the fragments of a sound plan, and how fragments lie to each other.
use Rattle.std.specs.Prelude.{◌≡◌, ℕ, ◌<◌, Bool, true, false, ◌≢◌, ◌⊎◌, ◌↔◌}
use Rattle.model.specs.Meaning.{Graph, head_of}
use Rattle.model.specs.Walks.{closed, SingleEntryExit, Canonical, Inside, Sound}
use Rattle.model.specs.Parts.{Part, fragment, Proper, Holds, Apart, Own}
use Rattle.model.specs.Kinds.{Branches}
use Rattle.theory.specs.Tests.{reach}
use Rattle.theory.specs.Cuts.{Cut, Crossed}

-- Theorem: the inside of a single-entry single-exit pair is told by a computed test, has neither first nor last, is entered by a alone and left by b alone;
-- and every set of steps without first that a and b cross, and no other link of the closed plan, is this inside.
pub record InsideCutOff : Type 0 where
  pub decided :
      (g : Graph) → Sound g → (a b : ℕ) → SingleEntryExit g a b → (s : ℕ) →
      (Inside g a b s ↔ (reach g.links g.steps b (head_of g.links a) s ≡ true))
  pub neither : (g : Graph) → Sound g → (a b : ℕ) → SingleEntryExit g a b → (Inside g a b g.first → ⊥) × (Inside g a b g.last → ⊥)
  pub cut : (g : Graph) → Sound g → (a b : ℕ) → SingleEntryExit g a b → Cut (closed g) a b (reach g.links g.steps b (head_of g.links a))
  pub only :
      (g : Graph) → Sound g → (a b : ℕ) → SingleEntryExit g a b → (T : ℕ → Bool) → Crossed (closed g) T a b → T g.first ≡ false →
      (s : ℕ) → s < g.steps → (Inside g a b s ↔ (T s ≡ true))

-- Theorem: of the whole plan and the canonical fragments, any two have no step in common, or one has all steps of the other.
abbrev pub FragmentsNest : Type 0
FragmentsNest = (g : Graph) → Sound g → (p q : Part) → Proper g p → Proper g q → Apart g p q ⊎ (Holds g p q ⊎ Holds g q p)

-- Theorem: two canonical fragments with the same steps inside are one.
abbrev pub InsideTells : Type 0
InsideTells =
    (g : Graph) → Sound g → (a b c d : ℕ) → Canonical g a b → Canonical g c d → Holds g (fragment a b) (fragment c d) →
    Holds g (fragment c d) (fragment a b) → (a ≡ c) × (b ≡ d)

-- Theorem: a step that does not branch, other than first and last, is alone in a canonical fragment.
abbrev pub PlainAlone : Type 0
PlainAlone =
    (g : Graph) → Sound g → (s : ℕ) → s < g.steps → s ≢ g.first → s ≢ g.last → (Branches g s → ⊥) →
    (a : ℕ) × (b : ℕ) × Canonical g a b × ((v : ℕ) → (Inside g a b v ↔ (v ≡ s)))

-- Theorem: so an own step that does not branch is all that its fragment has.
abbrev pub OwnBranches : Type 0
OwnBranches =
    (g : Graph) → Sound g → (a b s : ℕ) → Canonical g a b → Own g (fragment a b) s → (Branches g s → ⊥) → (v : ℕ) → Inside g a b v → v ≡ s
