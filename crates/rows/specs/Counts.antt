-- What is counted at fragments.
use Rattle.std.specs.Prelude.{ℕ, Bool, true, List, [], ◌∷◌, slice_index_or, slice_set}
use Rattle.model.specs.declared.numbers.Ends.{Ends}
use Rattle.model.specs.declared.numbers.Logic.{Logic}
use Rattle.rows.specs.declared.counting.Degree.{Degree}
use Rattle.rows.specs.declared.nesting.Fragment.{Fragment}
use Rattle.rows.specs.Kinds.{branching, counted, with_own}
use Rattle.rows.specs.Listed.{degree_at}
use Rattle.rows.specs.Nests.{no_fragment}

-- one own step more, which is inside the fragment
abbrev pub count_at : Fragment → Logic → Bool → Fragment
count_at f l b = record { site = f.site; depth = f.depth; own = with_own f.own l b; inside = counted f.inside true }

-- each step is counted at its home, one after the other
abbrev pub counted_by : List Fragment → List ℕ → List Logic → List Degree → List Fragment
counted_by fs [] ls ds = fs
counted_by fs (h ∷ hs) [] ds = fs
counted_by fs (h ∷ hs) (l ∷ ls) [] = fs
counted_by fs (h ∷ hs) (l ∷ ls) (d ∷ ds) = counted_by (slice_set fs h (count_at (slice_index_or fs h no_fragment) l (branching d))) hs ls ds

-- one link more, which leaves its tail and enters its head
abbrev pub linked : List Degree → Ends → List Degree
linked ds e =
    let tail = degree_at ds e.tail in
    let left = slice_set ds e.tail.0 (record { ins = tail.ins; outs = counted tail.outs true }) in
    let head = degree_at left e.head in
    slice_set left e.head.0 (record { ins = counted head.ins true; outs = head.outs })

-- the links are counted at their ends, one after the other
abbrev pub linked_by : List Degree → List Ends → List Degree
linked_by ds [] = ds
linked_by ds (e ∷ es) = linked_by (linked ds e) es
