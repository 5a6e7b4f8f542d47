-- Sets of steps, the links that cross them, and what they tell of walks and classes.
use Rattle.std.specs.Prelude.{◌≡◌, ℕ, ◌<◌, Bool, true, false, ◌||◌, ◌≢◌, ◌↔◌, List, length, ◌==◌}
use Rattle.std.specs.Bool.{xor}
use Rattle.model.specs.Meaning.{Graph, tail_of, head_of, EndsBelow}
use Rattle.model.specs.Walks.{Links, closed, Walks, Passes, Share, ClassName, Sound}
use Rattle.theory.specs.Tests.{reach, shareb}

-- Every step reaches every step.
abbrev pub Strong : ℕ → Links → Type 0
Strong n G = (u v : ℕ) → u < n → v < n → ∥ ((ks : List ℕ) × Walks G u ks v) ∥₁

-- Link a is the one link into the set, b the one link out of it.
pub record Cut (G : Links) (a b : ℕ) (S : ℕ → Bool) : Type 0 where
  pub a_from : S (tail_of G a) ≡ false
  pub a_to : S (head_of G a) ≡ true
  pub b_from : S (tail_of G b) ≡ true
  pub b_to : S (head_of G b) ≡ false
  pub others : (k : ℕ) → k < length G → k ≢ a → k ≢ b → S (tail_of G k) ≡ S (head_of G k)

-- Link k crosses the set: exactly one of its ends is in it.
abbrev pub crosses : Links → (ℕ → Bool) → ℕ → Bool
crosses G S k = xor (S (tail_of G k)) (S (head_of G k))

-- The links a and b cross the set, whichever way they point, and no other link does.
abbrev pub Crossed : Links → (ℕ → Bool) → ℕ → ℕ → Type 0
Crossed G S a b = (k : ℕ) → k < length G → crosses G S k ≡ (k == a || k == b)

-- Theorem: whether a walk leads from u to v without passing link a is told by a computed test.
abbrev pub ReachDecided : Type 0
ReachDecided =
    (G : Links) (n a u v : ℕ) → EndsBelow n G → u < n →
    ((reach G n a u v ≡ true) ↔ ((ks : List ℕ) × Walks G u ks v × (Passes a ks → ⊥)))

-- Theorem: whether two links share a class is told by a computed test.
abbrev pub ShareDecided : Type 0
ShareDecided = (G : Links) (n a b : ℕ) → EndsBelow n G → a < length G → b < length G → ((shareb G n a b ≡ true) ↔ Share G a b)

-- Theorem: two different links of a sound plan, closed, share a class exactly when some set of steps is crossed by these two links and no other.
abbrev pub ShareIsCut : Type 0
ShareIsCut =
    (g : Graph) → Sound g → (a b : ℕ) → a < length (closed g) → b < length (closed g) → a ≢ b →
    (Share (closed g) a b ↔ ((S : ℕ → Bool) × Crossed (closed g) S a b))

-- Theorem: every link of a sound plan has exactly one class name.
abbrev pub ClassNamed : Type 0
ClassNamed =
    (g : Graph) → Sound g → (l : ℕ) → l < length g.links →
    ((c : ℕ) × ClassName g l c) × ((c d : ℕ) → ClassName g l c → ClassName g l d → c ≡ d)

-- Theorem: a link with equal ends is alone in its class.
abbrev pub EqualEndsAlone : Type 0
EqualEndsAlone = (G : Links) (k : ℕ) → k < length G → tail_of G k ≡ head_of G k → (l : ℕ) → Share G k l → l ≡ k
