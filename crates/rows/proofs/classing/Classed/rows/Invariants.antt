use Rattle.std.proofs.Common.{◌≡◌, map, take, length, vec_items}
use Rattle.rows.specs.declared.listing.RowRun.{RowRun}
use Rattle.rows.proofs.classing.Classed.rows.Given as goal

abbrev pub invariant-loop-record : goal.invariant-loop-record
invariant-loop-record l = map (λ (r : RowRun). r.run) (vec_items l.rows) ≡ take (length l.yielded) l.runs
