use Rattle.std.proofs.Common.{◌≡◌, ◌<◌, ◌++◌, ◌∷◌, vec_items}
use Rattle.std.specs.List.{AllByRecursion}
use Rattle.std.specs.Slice.Iter.{chunks_exact_rest, chunks_exact_size}
use Rattle.text.specs.Spelling.{digits_of}
use Rattle.text.proofs.lines.frame_of.Given as goal

abbrev pub invariant-loop-pair : goal.invariant-loop-pair
invariant-loop-pair l = record {
  size : chunks_exact_size l.pair-iterator ≡ 2;
  spells : digits_of (l.kind ∷ vec_items l.fields) ++ chunks_exact_rest l.pair-iterator ≡ l.digits;
  small : AllByRecursion (λ b. b < 256) (l.kind ∷ vec_items l.fields);
}
