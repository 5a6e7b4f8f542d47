-- The depths of records, as a list.
use Rattle.std.proofs.Common.{◌≡◌, ℕ, List, map, get_or}
use Rattle.std.proofs.Math.ListN.{get_or-map}
use Rattle.rows.specs.declared.arranging.Record.{Record}
use Rattle.rows.specs.Orders.{no_record, depth_of}
use Rattle.rows.specs.Runs.{depth_at}

pub depth_at-map : (rs : List Record) (k : ℕ) → depth_at (map depth_of rs) k ≡ depth_of (get_or rs k no_record)
depth_at-map rs k = get_or-map depth_of rs k no_record
