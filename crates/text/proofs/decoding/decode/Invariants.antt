use Rattle.std.proofs.Common.{◌≡◌, length, vec_items}
use Rattle.std.specs.Iterator.Adapters.{enumerate_source, enumerate_count}
use Rattle.std.specs.Slice.Iter.{split_inclusive_rest}
use Rattle.text.proofs.Going.{Going}
use Rattle.text.proofs.decoding.decode.Given as goal

abbrev pub invariant-loop-k : goal.invariant-loop-k
invariant-loop-k l = record {
  going : Going l.text (vec_items l.frames) (split_inclusive_rest (enumerate_source l.k-iterator));
  counted : enumerate_count l.k-iterator ≡ length (vec_items l.frames);
}
