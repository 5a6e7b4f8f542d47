-- What the order of search says of a graph.
use Rattle.std.specs.Prelude.{◌≡◌, ℕ, zero, suc, ◌<◌, Bool, true, false, ◌⊎◌, List, [], length, get_or, slice_index_or}
use Rattle.model.specs.declared.numbers.LinkNo.{LinkNo}
use Rattle.model.specs.Meaning.{tail_of, head_of}
use Rattle.search.specs.Joined.{add}
use Rattle.model.specs.Walks.{Walks}

-- the number of the link at place i of a list of links
abbrev pub link_at : List LinkNo → ℕ → ℕ
link_at order i = (get_or order i (record { 0 = 0 })).0

-- of the first i links those that leave v, the last one first
abbrev pub leaving : List (ℕ × ℕ) → ℕ → ℕ → List LinkNo
leaving G zero = λ v. []
leaving G (suc i) = add (leaving G i) (tail_of G i) (record { 0 = i })

-- the tail of each link is the start, or the head of an earlier link; no link stands twice
pub record InOrder (G : List (ℕ × ℕ)) (start : ℕ) (order : List LinkNo) : Type 0 where
  pub below : (i : ℕ) → i < length order → link_at order i < length G
  pub earlier : (i : ℕ) → i < length order → (tail_of G (link_at order i) ≡ start) ⊎ ((j : ℕ) × (j < i) × (head_of G (link_at order j) ≡ tail_of G (link_at order i)))
  pub once : (i j : ℕ) → i < length order → j < length order → link_at order i ≡ link_at order j → i ≡ j

-- the steps that are reached are those that a walk from the start leads to, and the order has the links whose tail is reached
pub record Searched (G : List (ℕ × ℕ)) (n start : ℕ) (order : List LinkNo) (reached : List Bool) : Type 0 where
  pub long : length reached ≡ n
  pub in_order : InOrder G start order
  pub whole : (k : ℕ) → k < length G → slice_index_or reached (tail_of G k) false ≡ true → (i : ℕ) × (i < length order) × (link_at order i ≡ k)
  pub only : (i : ℕ) → i < length order → slice_index_or reached (tail_of G (link_at order i)) false ≡ true
  pub walked : (v : ℕ) → slice_index_or reached v false ≡ true → (ks : List ℕ) × Walks G start ks v
  pub complete : (v : ℕ) (ks : List ℕ) → Walks G start ks v → slice_index_or reached v false ≡ true
