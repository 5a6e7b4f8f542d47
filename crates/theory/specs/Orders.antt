-- The links of a class stand in a line, and every search finds them in that order.
use Rattle.std.specs.Prelude.{◌≡◌, ℕ, ◌<◌, ◌≢◌, ◌⊎◌, ◌↔◌, List, length, slice_index}
use Rattle.model.specs.Meaning.{Graph, tail_of, head_of}
use Rattle.model.specs.Walks.{closed, Share, Leads, Canonical, Sound}

-- Theorem: of two different links of a class one leads the other, and not both; and what a link leads leads on.
pub record ClassInLine : Type 0 where
  pub one_leads :
      (g : Graph) → Sound g → (a b : ℕ) → a < length g.links → b < length g.links → a ≢ b → Share (closed g) a b → Leads g a b ⊎ Leads g b a
  pub not_both : (g : Graph) → Sound g → (a b : ℕ) → Leads g a b → Leads g b a → ⊥
  pub onward : (g : Graph) → Sound g → (a b c : ℕ) → Leads g a b → Leads g b c → Leads g a c

abbrev pub link_at : List ℕ → ℕ → ℕ
link_at order i = slice_index order i

-- An order of search: every link of the plan once, each with the first step or the head of an earlier link as its tail.
pub record SearchOrder (g : Graph) (order : List ℕ) : Type 0 where
  pub link : (i : ℕ) → i < length order → link_at order i < length g.links
  pub every : (k : ℕ) → k < length g.links → (i : ℕ) × (i < length order) × (link_at order i ≡ k)
  pub once : (i j : ℕ) → i < length order → j < length order → link_at order i ≡ link_at order j → i ≡ j
  pub follows :
      (i : ℕ) → i < length order →
      (tail_of g.links (link_at order i) ≡ g.first) ⊎ ((j : ℕ) × (j < i) × (head_of g.links (link_at order j) ≡ tail_of g.links (link_at order i)))

-- Theorem: a link that leads another stands earlier in every order of search.
abbrev pub LeaderFirst : Type 0
LeaderFirst =
    (g : Graph) (order : List ℕ) → SearchOrder g order → (i j : ℕ) → i < length order → j < length order →
    Leads g (link_at order i) (link_at order j) → i < j

-- The links at i and j share a class, i stands earlier, and no link of the class stands between them.
abbrev pub Neighbours : Graph → List ℕ → ℕ → ℕ → Type 0
Neighbours g order i j =
    (i < j) × Share (closed g) (link_at order i) (link_at order j) × ((k : ℕ) → i < k → k < j → Share (closed g) (link_at order i) (link_at order k) → ⊥)

-- Theorem: the canonical fragments are the neighbours of a class in any order of search.
abbrev pub FragmentsNeighbours : Type 0
FragmentsNeighbours =
    (g : Graph) → Sound g → (order : List ℕ) → SearchOrder g order → (i j : ℕ) → i < length order → j < length order →
    (Canonical g (link_at order i) (link_at order j) ↔ Neighbours g order i j)
