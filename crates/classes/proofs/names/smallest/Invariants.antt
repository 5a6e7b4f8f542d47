use Rattle.std.proofs.Common.{◌≡◌, length, vec_items, vec_len}
use Rattle.theory.specs.Each.{Each, EachSome}
use Rattle.classes.specs.Bounds.{Below}
use Rattle.classes.proofs.names.smallest.Given as goal

abbrev pub invariant-loop-l : goal.invariant-loop-l
invariant-loop-l l =
    (vec_len l.names ≡ length l.firsts) × EachSome (Below l.links) (vec_items l.names)
    × (vec_len l.classes ≡ l.l) × Each (Below l.links) (record { 0 = 0 }) (vec_items l.classes)
