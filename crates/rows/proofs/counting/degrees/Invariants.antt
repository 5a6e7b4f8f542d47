use Rattle.std.proofs.Common.{◌≡◌, drop, replicate, vec_items, vec_len}
use Rattle.rows.specs.Counts.{linked_by}
use Rattle.rows.proofs.counting.degrees.Given as goal

abbrev pub invariant-loop-ends : goal.invariant-loop-ends
invariant-loop-ends l = record {
  each : vec_len l.degrees ≡ l.steps;
  left : linked_by (vec_items l.degrees) (drop l.ends-index l.links) ≡ linked_by (replicate l.steps (record { ins = 0; outs = 0 })) l.links;
}
