-- A spanning tree of the closed plan, whichever way its links point. The links that are not of the tree are the brackets of the steps whose subtrees they cross.
use Rattle.std.specs.Prelude.{◌≡◌, ℕ, ◌<◌, Bool, false, ◌||◌, ◌≢◌, ◌⊎◌, ◌↔◌, length, ◌==◌}
use Rattle.model.specs.Meaning.{Graph, tail_of, head_of}
use Rattle.model.specs.Walks.{Links, closed, Share, Sound}
use Rattle.theory.specs.Cuts.{crosses}

-- Each step v other than the root has a parent of lower rank, and link v joins the two. sub t v: step v is in the subtree of t.
pub record Tree (G : Links) (n root : ℕ) (rank parent link : ℕ → ℕ) (sub : ℕ → ℕ → Bool) : Type 0 where
  pub root_in : root < n
  pub in_graph : (v : ℕ) → v < n → v ≢ root → parent v < n
  pub up : (v : ℕ) → v < n → v ≢ root → rank (parent v) < rank v
  pub is_link : (v : ℕ) → v < n → v ≢ root → link v < length G
  pub joins :
      (v : ℕ) → v < n → v ≢ root →
      ((tail_of G (link v) ≡ parent v) × (head_of G (link v) ≡ v)) ⊎ ((tail_of G (link v) ≡ v) × (head_of G (link v) ≡ parent v))
  pub apart : (v w : ℕ) → v < n → v ≢ root → w < n → w ≢ root → link v ≡ link w → v ≡ w
  pub sub_root : (t : ℕ) → t < n → t ≢ root → sub t root ≡ false
  pub sub_more : (t v : ℕ) → t < n → v < n → v ≢ root → sub t v ≡ (v == t || sub t (parent v))
  pub sub_up : (t v : ℕ) → t < n → v < n → rank v < rank t → sub t v ≡ false

-- Link k is a link of the tree.
abbrev pub OfTree : ℕ → ℕ → (ℕ → ℕ) → ℕ → Type 0
OfTree n root link k = (v : ℕ) × (v < n) × (v ≢ root) × (link v ≡ k)

-- The same links outside the tree cross the subtrees of s and t.
abbrev pub SameBrackets : Links → ℕ → ℕ → (ℕ → ℕ) → (ℕ → ℕ → Bool) → ℕ → ℕ → Type 0
SameBrackets G n root link sub s t = (k : ℕ) → k < length G → (OfTree n root link k → ⊥) → crosses G (sub s) k ≡ crosses G (sub t) k

-- Of the links outside the tree e alone crosses the subtree of t.
abbrev pub LoneBracket : Links → ℕ → ℕ → (ℕ → ℕ) → (ℕ → ℕ → Bool) → ℕ → ℕ → Type 0
LoneBracket G n root link sub t e = (k : ℕ) → k < length G → (OfTree n root link k → ⊥) → crosses G (sub t) k ≡ (k == e)

-- Brackets tell which links share a class: two links of the tree, one of the tree and one outside, two outside.
pub record Told (G : Links) (n root : ℕ) (link : ℕ → ℕ) (sub : ℕ → ℕ → Bool) : Type 0 where
  pub inner : (s t : ℕ) → s < n → s ≢ root → t < n → t ≢ root → s ≢ t → (Share G (link s) (link t) ↔ SameBrackets G n root link sub s t)
  pub mixed :
      (t e : ℕ) → t < n → t ≢ root → e < length G → (OfTree n root link e → ⊥) → (Share G (link t) e ↔ LoneBracket G n root link sub t e)
  pub outer :
      (e f : ℕ) → e < length G → f < length G → e ≢ f → (OfTree n root link e → ⊥) → (OfTree n root link f → ⊥) → Share G e f → ⊥

-- Theorem: so it is in every sound plan, closed, for every spanning tree.
abbrev pub BracketsTell : Type 0
BracketsTell =
    (g : Graph) → Sound g → (root : ℕ) (rank parent link : ℕ → ℕ) (sub : ℕ → ℕ → Bool) → Tree (closed g) g.steps root rank parent link sub →
    Told (closed g) g.steps root link sub
