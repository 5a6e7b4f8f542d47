use Rattle.std.proofs.Common.{◌≡◌, map}
use Rattle.rows.specs.Nests.{site_of}
use Rattle.rows.proofs.counting.count_inside.Given as goal

abbrev pub invariant-loop-k : goal.invariant-loop-k
invariant-loop-k l = map site_of l.fragments ≡ map site_of l.initial.fragments
