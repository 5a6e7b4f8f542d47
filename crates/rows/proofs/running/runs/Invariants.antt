use Rattle.std.proofs.Common.{◌≡◌, map, length, vec_items, vec_len}
use Rattle.rows.specs.Orders.{depth_of}
use Rattle.rows.specs.Runs.{RunsFrom}
use Rattle.rows.proofs.running.runs.Given as goal

abbrev pub invariant-loop-i : goal.invariant-loop-i
invariant-loop-i l = record {
  each : vec_len l.runs ≡ length l.records;
  told : RunsFrom (map depth_of l.records) l.i (vec_items l.runs);
}
