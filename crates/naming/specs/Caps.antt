-- Why a cap is never made from a step to itself.
use Rattle.std.specs.Prelude.{ℕ, Bool, [], ◌∷◌, nat_lt, slice_index, slice_index_or}
use Rattle.model.specs.Meaning.{Graph}
use Rattle.model.specs.Walks.{closed, Share}
use Rattle.naming.specs.Names.{SameName}
use Rattle.naming.specs.Built.{shape_of}
use Rattle.naming.specs.Searched.{Searched, low_own, low_second, base_by, base_of}
use Rattle.naming.specs.Classes.{Numbered}

-- Two loops at step 1: 0→1, 1→2, 2→1, 1→3, 3→1, 1→4.
abbrev pub two_loops : Graph
two_loops = record { steps = 5; links = (0, 1) ∷ (1, 2) ∷ (2, 1) ∷ (1, 3) ∷ (3, 1) ∷ (1, 4) ∷ []; first = 0; last = 4 }

-- One search of it: each step has its own number, and 2, 3 and 4 are children of 1. The back links are 2, 4 and the return link 6.
abbrev pub found : Searched
found =
    record {
      size = 5;
      parent = λ k. slice_index (0 ∷ 0 ∷ 1 ∷ 1 ∷ 1 ∷ []) k;
      many = 7;
      links = λ k. slice_index_or ([] ∷ [] ∷ (2 ∷ []) ∷ (4 ∷ []) ∷ (6 ∷ []) ∷ []) k [];
      from = λ x. slice_index (0 ∷ 0 ∷ 2 ∷ 0 ∷ 3 ∷ 0 ∷ 4 ∷ []) x;
      to = λ x. slice_index (0 ∷ 0 ∷ 1 ∷ 0 ∷ 1 ∷ 0 ∷ 0 ∷ []) x;
    }

abbrev pub itself : ℕ → ℕ
itself k = k

abbrev pub tree_link : ℕ → ℕ
tree_link k = slice_index (0 ∷ 0 ∷ 1 ∷ 3 ∷ 5 ∷ []) k

-- A cap wherever hi2 is below hi0, also where hi2 is the step itself.
abbrev pub loose : Searched → ℕ → Bool
loose P k = nat_lt (low_second P k) (low_own P k)

-- Theorem: links 0 and 5, above numbers 1 and 4, share a class. They have the same name by the method, but not with the loose rule, which caps step 1 to itself.
pub record CapToItself : Type 0 where
  pub searched : Numbered two_loops found itself itself tree_link
  pub together : Share (closed two_loops) (tree_link 1) (tree_link 4)
  pub named : (d : ℕ) → SameName (shape_of (base_of found)) d 1 4
  pub parted : (d : ℕ) → SameName (shape_of (base_by (loose found) found)) d 1 4 → ⊥
