-- Tests that compute what walks can do: which steps a walk reaches without passing a link, and which links share a class.
use Rattle.std.specs.Prelude.{ℕ, zero, suc, ◌+◌, Bool, true, false, cond, not, ◌&&◌, ◌||◌, List, [], ◌∷◌, length, replicate, ◌==◌, slice_index_or, slice_set}
use Rattle.model.specs.Meaning.{tail_of, head_of}
use Rattle.model.specs.Walks.{Links}

-- Whether step v is in the set S.
abbrev pub has : List Bool → ℕ → Bool
has S v = slice_index_or S v false

-- Take link k, unless it is a: if its tail is reached, so is its head.
unfoldable pub relax : Links → ℕ → ℕ → List Bool → List Bool
relax G a k S = cond (k == a) S (cond (has S (tail_of G k)) (slice_set S (head_of G k) true) S)

-- Take the first k links.
unfoldable pub sweep : Links → ℕ → ℕ → List Bool → List Bool
sweep G a zero S = S
sweep G a (suc k) S = relax G a k (sweep G a k S)

abbrev pub count : List Bool → ℕ
count [] = 0
count (x ∷ xs) = cond x 1 0 + count xs

-- Rounds through all links, until one finds nothing new; at most n.
unfoldable pub rounds : Links → ℕ → ℕ → List Bool → List Bool
rounds G a zero S = S
rounds G a (suc n) S = let R = sweep G a (length G) S in elim (count R == count S) [ true ↦ S | false ↦ rounds G a n R ]

-- The steps that a walk from u reaches without link a.
unfoldable pub reached : Links → ℕ → ℕ → ℕ → List Bool
reached G n a u = rounds G a n (slice_set (replicate n false) u true)

unfoldable pub reach : Links → ℕ → ℕ → ℕ → ℕ → Bool
reach G n a u v = has (reached G n a u) v

-- No closed walk passes one of the two without the other: neither has a walk from its head back to its tail without the other.
unfoldable pub shareb : Links → ℕ → ℕ → ℕ → Bool
shareb G n a b = a == b || (not (reach G n b (head_of G a) (tail_of G a)) && not (reach G n a (head_of G b) (tail_of G b)))

-- Every number below n passes the test.
unfoldable pub each_below : (ℕ → Bool) → ℕ → Bool
each_below f zero = true
each_below f (suc n) = f n && each_below f n
