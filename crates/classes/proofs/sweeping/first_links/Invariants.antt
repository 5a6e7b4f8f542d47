use Rattle.std.proofs.Common.{◌≡◌, length, take, vec_items, vec_len}
use Rattle.std.specs.Iterator.Adapters.{rev_source, skip_source, skip_count, enumerate_source, enumerate_count}
use Rattle.std.specs.Slice.Iter.{iter_rest}
use Rattle.theory.specs.Each.{Each}
use Rattle.brackets.specs.Method.{links_of, visits_of, size_of}
use Rattle.classes.specs.Bounds.{Below}
use Rattle.classes.proofs.sweeping.first_links.Given as goal

abbrev pub invariant-loop-v : goal.invariant-loop-v
invariant-loop-v l =
    (vec_len l.firsts ≡ length (links_of l.search)) × Each (Below (length (links_of l.search))) (record { 0 = 0 }) (vec_items l.firsts)
    × (l.naming.names.links ≡ length (links_of l.search)) × (vec_len l.naming.sweep.levels ≡ size_of l.search)
    × (skip_count (rev_source l.v-iterator) ≡ 1) × (enumerate_count (skip_source (rev_source l.v-iterator)) ≡ 0)
    × (iter_rest (enumerate_source (skip_source (rev_source l.v-iterator))) ≡ take (length (iter_rest (enumerate_source (skip_source (rev_source l.v-iterator))))) (visits_of l.search))
