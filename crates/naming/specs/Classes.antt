-- From a search of the closed plan, directions forgotten, to its classes: two links share a class exactly when they have the same name.
use Rattle.std.specs.Prelude.{◌≡◌, ℕ, ◌<◌, ◌⊎◌, ◌↔◌, length}
use Rattle.model.specs.Meaning.{Graph, tail_of, head_of}
use Rattle.model.specs.Walks.{closed, Share, Sound}
use Rattle.naming.specs.Names.{top_of}
use Rattle.naming.specs.Built.{shape_of}
use Rattle.naming.specs.Searched.{Searched, base_of, Upward}
use Rattle.naming.specs.Crossing.{Outer, Drawn}

-- What a search of the closed plan leaves: the number of each step and the step of each number, parents, back links, and the tree link above each number but 0.
pub record Numbered (g : Graph) (P : Searched) (number step link : ℕ → ℕ) : Type 0 where
  pub size : P.size ≡ g.steps
  pub many : P.many ≡ length (closed g)
  pub number_below : (v : ℕ) → v < g.steps → number v < g.steps
  pub step_below : (k : ℕ) → k < g.steps → step k < g.steps
  pub number_step : (k : ℕ) → k < g.steps → number (step k) ≡ k
  pub step_number : (v : ℕ) → v < g.steps → step (number v) ≡ v
  pub is_link : (k : ℕ) → 0 < k → k < g.steps → link k < length (closed g)
  pub joins :
      (k : ℕ) → 0 < k → k < g.steps →
      ((tail_of (closed g) (link k) ≡ step (P.parent k)) × (head_of (closed g) (link k) ≡ step k)) ⊎
      ((tail_of (closed g) (link k) ≡ step k) × (head_of (closed g) (link k) ≡ step (P.parent k)))
  pub apart : (j k : ℕ) → 0 < j → j < g.steps → 0 < k → k < g.steps → link j ≡ link k → j ≡ k
  pub upward : Upward P
  pub drawn : Drawn P (λ e. number (tail_of (closed g) e)) (λ e. number (head_of (closed g) e)) link

-- The name of the tree link above k: the top of the list of k, and its length.
abbrev pub top_at : Searched → ℕ → ℕ
top_at P k = top_of (shape_of (base_of P)) 0 k

abbrev pub length_at : Searched → ℕ → ℕ
length_at P k = length ((shape_of (base_of P)).list k)

-- The names of links: of the tree link above k the top of the list of k and its length, of any other link the link itself and 1. d is the top of no list.
pub record NameOf (P : Searched) (link : ℕ → ℕ) (d : ℕ) (name : ℕ → ℕ × ℕ) : Type 0 where
  pub tree : (k : ℕ) → 0 < k → k < P.size → name (link k) ≡ (top_of (shape_of (base_of P)) d k, length ((shape_of (base_of P)).list k))
  pub other : (e : ℕ) → e < P.many → Outer P link e → name e ≡ (e, 1)

-- Theorem: in a sound plan, closed, two links share a class exactly when they have the same name.
abbrev pub NamesTellClasses : Type 0
NamesTellClasses =
    (g : Graph) → Sound g → (P : Searched) (number step link : ℕ → ℕ) → Numbered g P number step link → (d : ℕ) (name : ℕ → ℕ × ℕ) → NameOf P link d name →
    (a b : ℕ) → a < length (closed g) → b < length (closed g) → (Share (closed g) a b ↔ (name a ≡ name b))

-- Theorem: in a sound plan, closed, every tree link has a bracket, so that no list but that of the root is empty.
abbrev pub TreeLinksBracketed : Type 0
TreeLinksBracketed =
    (g : Graph) → Sound g → (P : Searched) (number step link : ℕ → ℕ) → Numbered g P number step link →
    (k : ℕ) → 0 < k → k < g.steps → 0 < length ((shape_of (base_of P)).list k)
