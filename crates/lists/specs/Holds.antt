-- What a list of the arena holds.
--     Has cs i c         the cell c stands at the index i
--     Walk cs f b xs     the cells from f on hold xs, and b is the last of them
--     Holds cs l xs      the list l holds the items xs
--     Held cs l          l is a list of the arena
--     Apart a b          the two lists have no cell in common: their last cells differ
use Rattle.std.specs.Prelude.{◌≡◌, ℕ, ◌<◌, List, [], ◌∷◌, length, Some, None, Option, ◌≢◌, slice_index_or}
use Rattle.lists.specs.declared.cells.Cell.{Cell}
use Rattle.lists.specs.declared.cells.Chain.{Chain}

pub record Has {T : Type 0} (cs : List (Cell T)) (i : ℕ) (c : Cell T) : Type 0 where
  pub within : i < length cs
  pub reads : c ≡ slice_index_or cs i c

abbrev pub Last : {T : Type 0} → Option ℕ → ℕ → List T → Type 0
Last b i [] = b ≡ Some i
Last b i (y ∷ ys) = Unit {0}

abbrev pub Walk : {T : Type 0} → List (Cell T) → Option ℕ → Option ℕ → List T → Type 0
Walk cs f b [] = f ≡ None
Walk cs f b (x ∷ xs) = (i : ℕ) × (n : Option ℕ) × (f ≡ Some i) × Has cs i (record { item = x; next = n }) × Last b i xs × Walk cs n b xs

pub record Holds {T : Type 0} (cs : List (Cell T)) (l : Chain) (xs : List T) : Type 0 where
  pub walk : Walk cs l.front l.back xs
  pub empty : l.front ≡ None → l.back ≡ None
  pub long : l.len ≡ length xs

abbrev pub Held : {T : Type 0} → List (Cell T) → Chain → Type 0
Held {T = T} cs l = (xs : List T) × Holds cs l xs

abbrev pub Apart : Chain → Chain → Type 0
Apart a b = (k : ℕ) → a.back ≡ Some k → b.back ≢ Some k

abbrev pub Popped : {T : Type 0} → List (Cell T) → List T → Option (T × Chain) → Type 0
Popped cs xs None = xs ≡ []
Popped {T = T} cs xs (Some p) = (ys : List T) × (xs ≡ p.0 ∷ ys) × Holds cs p.1 ys

-- the empty list
abbrev pub nil : Chain
nil = record { front = None; back = None; len = 0 }
