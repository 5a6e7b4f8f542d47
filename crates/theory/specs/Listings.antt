-- What the listing of a sound plan is like.
use Rattle.std.specs.Prelude.{◌≡◌, ℕ, ◌+◌, ◌<◌, ◌≤◌, ◌≢◌, ◌↔◌, List, length, Some}
use Rattle.model.specs.Meaning.{Graph, Meaning}
use Rattle.model.specs.Walks.{Sound}
use Rattle.model.specs.Parts.{Holds}
use Rattle.model.specs.Listing.{Row, row, Parent, Below, Listing, RunOf}

-- Theorem: two listings of one sound meaning are equal.
abbrev pub OneListing : Type 0
OneListing = (μ : Meaning) → Sound μ.graph → (xs ys : List Row) → Listing μ xs → Listing μ ys → xs ≡ ys

-- Row i is a parent, a parent's parent, and so on, of row j.
pub data Above (rows : List Row) (i : ℕ) : ℕ → Type 0 where
  parent : {j : ℕ} → (row rows j).parent ≡ Some i → Above rows i j
  higher : {j k : ℕ} → (row rows j).parent ≡ Some k → Above rows i k → Above rows i j

-- Theorem: the rows below a row, by the steps that it has, are those below it by parents.
abbrev pub BelowByParents : Type 0
BelowByParents =
    (μ : Meaning) → Sound μ.graph → (rows : List Row) → Listing μ rows → (i j : ℕ) → i < length rows → j < length rows →
    (Below μ.graph rows i j ↔ Above rows i j)

-- Theorem: the parent lies in every other row that has all steps of the row. Smallest by number of steps is smallest by containment.
abbrev pub ParentLeast : Type 0
ParentLeast =
    (μ : Meaning) → Sound μ.graph → (rows : List Row) → Listing μ rows → (i j k : ℕ) → j < length rows → Parent μ.graph rows i j →
    k < length rows → k ≢ j → Holds μ.graph (row rows k).part (row rows j).part → Holds μ.graph (row rows k).part (row rows i).part

-- Theorem: every row has a run, which holds the row itself, and two runs are apart or one lies within the other.
pub record RunsNest : Type 0 where
  pub some : (μ : Meaning) → Sound μ.graph → (rows : List Row) → Listing μ rows → (i : ℕ) → i < length rows → (r : ℕ) × RunOf μ.graph rows i r
  pub own : (g : Graph) (rows : List Row) (i r : ℕ) → i < length rows → RunOf g rows i r → 1 ≤ r
  pub nest :
      (g : Graph) (rows : List Row) (i r j s : ℕ) → i < length rows → j < length rows → RunOf g rows i r → RunOf g rows j s → i ≤ j → j < i + r →
      j + s ≤ i + r
