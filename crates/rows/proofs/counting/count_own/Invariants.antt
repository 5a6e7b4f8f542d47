use Rattle.std.proofs.Common.{◌≡◌, length}
use Rattle.rows.specs.Counts.{counted_by}
use Rattle.rows.proofs.counting.count_own.Given as goal

abbrev pub invariant-loop-home : goal.invariant-loop-home
invariant-loop-home l = record {
  same : length l.fragments ≡ length l.initial.fragments;
  left : counted_by l.fragments l.home-iterator.a.a.rest.now l.home-iterator.a.b.rest.now l.home-iterator.b.rest.now ≡ counted_by l.initial.fragments l.homes l.logics l.degrees;
}
