use Rattle.std.proofs.Common.{ℕ, ◌-◌, ◌<◌, ◌≤◌, map, length}
use Rattle.rows.specs.Orders.{depth_of}
use Rattle.rows.specs.Runs.{depth_at}
use Rattle.rows.proofs.running.run_at.Given as goal

abbrev pub invariant-loop-end : goal.invariant-loop-end
invariant-loop-end l = record {
  after : l.i < l.end;
  within : l.end ≤ length l.records;
  deeper : (k : ℕ) → l.i < k → k < l.end → depth_at (map depth_of l.records) l.i < depth_at (map depth_of l.records) k;
}

abbrev pub decreases-loop-end : goal.decreases-loop-end
decreases-loop-end l = length l.records - l.end
