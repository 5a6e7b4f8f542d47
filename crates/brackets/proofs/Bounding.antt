-- The bounds of a whole search.
use Rattle.std.proofs.Common.{◌≡◌, ℕ, ◌<◌, None, slice_index_or, sym, subst, ◌∙◌, arith}
use Rattle.std.proofs.lemmas.Option.{none-some}
use Rattle.model.specs.Meaning.{EndsBelow, tail_of, head_of}
use Rattle.brackets.specs.declared.spanning.Spanning.{Spanning}
use Rattle.brackets.specs.Method.{links_of, numbers_of, size_of, number_of, Bounded, Whole}

-- A search that is whole is within the bounds, so that whoever has one may start a sweep.
pub whole_is_bounded : (s : Spanning) → Whole s → Bounded s
whole_is_bounded s w =
    let numbered : (v : ℕ) → v < size_of s → slice_index_or (numbers_of s) v None ≡ None → ⊥ = λ v l e. none-some (number_of s v) (sym e ∙ w.numbered v l) in
    record {
      ends = subst (λ n. EndsBelow n (links_of s)) (sym w.long) w.within;
      linked = w.tree.is_link;
      both = λ e l. (λ h. absurd (numbered (tail_of (links_of s) e) (w.within e l).0 h), λ h. absurd (numbered (head_of (links_of s) e) (w.within e l).1 h));
      few = omega arith;
    }
