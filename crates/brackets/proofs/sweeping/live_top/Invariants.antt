use Rattle.std.proofs.Common.{◌≡◌, length, set}
use Rattle.lists.specs.Many.{row}
use Rattle.brackets.specs.Live.{live}
use Rattle.brackets.proofs.sweeping.live_top.Given as goal

abbrev pub invariant-loop-top : goal.invariant-loop-top
invariant-loop-top l =
    (l.brackets ≡ set l.initial.brackets l.v (row l.brackets l.v)) × (live l.v (row l.initial.brackets l.v) ≡ live l.v (row l.brackets l.v))

abbrev pub decreases-loop-top : goal.decreases-loop-top
decreases-loop-top l = length (row l.brackets l.v)
