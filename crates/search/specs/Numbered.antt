-- The numbers that a search gives to steps, and its visits in order.
use Rattle.std.specs.Prelude.{◌≡◌, ℕ, ◌+◌, ◌<◌, cond, List, [], ◌∷◌, length, get_or, is_some, Some, None, Option, slice_index_or}
use Rattle.search.specs.declared.trees.Visit.{Visit}

abbrev pub none : Visit
none = record { step = record { 0 = 0 }; parent = 0; link = record { 0 = 0 } }

-- how many steps have no number
abbrev pub nones : List (Option ℕ) → ℕ
nones [] = 0
nones (o ∷ os) = cond (is_some o) 0 1 + nones os

-- the k-th visit is of a step that there is
abbrev pub Inside : List (Option ℕ) → List Visit → Type 0
Inside ns vs = (k : ℕ) → k < length vs → (get_or vs k none).step.0 < length ns

-- the step of the k-th visit has the number k
abbrev pub Back : List (Option ℕ) → List Visit → Type 0
Back ns vs = (k : ℕ) → k < length vs → slice_index_or ns (get_or vs k none).step.0 None ≡ Some k

-- the step that has the number k is that of the k-th visit
abbrev pub Forth : List (Option ℕ) → List Visit → Type 0
Forth ns vs = (v k : ℕ) → slice_index_or ns v None ≡ Some k → (get_or vs k none).step.0 ≡ v

-- a number that a step has is that of a visit
abbrev pub Known : List (Option ℕ) → List Visit → Type 0
Known ns vs = (v k : ℕ) → slice_index_or ns v None ≡ Some k → k < length vs

-- each parent came before
abbrev pub Above : List Visit → Type 0
Above vs = (k : ℕ) → 0 < k → k < length vs → (get_or vs k none).parent < k

-- a visit of step s from the number p by the link l
abbrev pub visited : ℕ → ℕ → ℕ → Visit
visited s p l = record { step = record { 0 = s }; parent = p; link = record { 0 = l } }
