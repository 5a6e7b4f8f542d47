-- The tree of a depth-first search. Steps have numbers in the order in which the search came to them; the first has the number 0.
use Rattle.std.specs.Prelude.{◌≡◌, ℕ, zero, suc, ◌<◌, Bool, true, cond, ◌⊎◌, List, length, get_or, Some, None, Option, ◌==◌, slice_index_or}
use Rattle.search.specs.declared.trees.Visit.{Visit}
use Rattle.search.specs.Numbered.{none}
use Rattle.search.specs.Joined.{Joins, Connected}

-- the number m parents above b
abbrev pub rise : (ℕ → ℕ) → ℕ → ℕ → ℕ
rise par zero b = b
rise par (suc m) b = rise par m (par b)

-- a is b, or an ancestor of b
abbrev pub Anc : (ℕ → ℕ) → ℕ → ℕ → Type 0
Anc par a b = (m : ℕ) × (rise par m b ≡ a)

-- the same as a test that rises f times at most; f = b is enough
abbrev pub anc : (ℕ → ℕ) → ℕ → ℕ → ℕ → Bool
anc par zero a b = a == b
anc par (suc f) a b = cond (a == b) true (anc par f a (par b))

-- of number k: its parent, its step, and the link that joins the two, its tree link
abbrev pub par_of : List Visit → ℕ → ℕ
par_of vs k = (get_or vs k none).parent

abbrev pub step_of : List Visit → ℕ → ℕ
step_of vs k = (get_or vs k none).step.0

abbrev pub link_of : List Visit → ℕ → ℕ
link_of vs k = (get_or vs k none).link.0

-- G are the links, n how many steps there are, ns the number of each step, vs the visits in order of number
pub record Spans (G : List (ℕ × ℕ)) (n root : ℕ) (ns : List (Option ℕ)) (vs : List Visit) : Type 0 where
  pub long : length ns ≡ n
  -- number 0 is the root, and its own parent
  pub first : step_of vs 0 ≡ root
  pub rooted : par_of vs 0 ≡ 0
  -- numbers and steps are inverse
  pub inside : (k : ℕ) → k < length vs → step_of vs k < n
  pub back : (k : ℕ) → k < length vs → slice_index_or ns (step_of vs k) None ≡ Some k
  pub known : (v k : ℕ) → slice_index_or ns v None ≡ Some k → k < length vs
  pub forth : (v k : ℕ) → slice_index_or ns v None ≡ Some k → step_of vs k ≡ v
  -- a parent has a smaller number, and the tree link joins the two
  pub above : (k : ℕ) → 0 < k → k < length vs → par_of vs k < k
  pub joined : (k : ℕ) → 0 < k → k < length vs → Joins G (link_of vs k) (step_of vs k) (step_of vs (par_of vs k))
  -- every link joins a number with an ancestor of it or with itself
  pub near : (l u v i j : ℕ) → Joins G l u v → slice_index_or ns u None ≡ Some i → slice_index_or ns v None ≡ Some j → Anc (par_of vs) i j ⊎ Anc (par_of vs) j i
  -- a link has both ends in the tree, or none
  pub closed : (l u v i : ℕ) → Joins G l u v → slice_index_or ns u None ≡ Some i → (j : ℕ) × (slice_index_or ns v None ≡ Some j)
  -- if the links connect every step with the root, the tree has as many numbers as there are steps; if it has, every step has one
  pub whole : Connected G n root → length vs ≡ n
  pub numbered : length vs ≡ n → (v : ℕ) → v < n → (k : ℕ) × (k < n) × (slice_index_or ns v None ≡ Some k)
