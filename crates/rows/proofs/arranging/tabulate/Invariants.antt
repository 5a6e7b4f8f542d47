use Rattle.std.proofs.Common.{◌≡◌, ◌-◌, ◌++◌, ◌<◌, take, length, vec_items}
use Rattle.std.specs.List.{All}
use Rattle.lists.specs.Many.{row}
use Rattle.rows.specs.declared.arranging.Record.{Record}
use Rattle.rows.specs.Bounds.{AllBelow}
use Rattle.rows.proofs.arranging.tabulate.Given as goal

abbrev pub invariant-loop-row : goal.invariant-loop-row
invariant-loop-row l = record {
  long : length l.below ≡ length l.initial.below;
  taken : vec_items l.records ++ take (length l.initial.below - l.row) (row l.below 0) ≡ take (length l.initial.below) (row l.initial.below 0);
  known : All (λ (r : Record). r.number < length l.initial.below) (row l.below 0);
  each : length (vec_items l.row_of) ≡ length l.initial.below;
  rows : AllBelow (length l.initial.below) (vec_items l.row_of);
}
