-- The row that tells a fragment.
use Rattle.std.specs.Prelude.{ℕ, List, Some, None, Option, slice_index, slice_index_or}
use Rattle.model.specs.declared.kinds.Kind.TheVariants.{Whole}
use Rattle.model.specs.declared.numbers.Ends.{Ends}
use Rattle.model.specs.declared.numbers.RowNo.{RowNo}
use Rattle.model.specs.declared.numbers.StepNo.{StepNo}
use Rattle.model.specs.declared.rowing.Row.{Row}
use Rattle.model.specs.Meaning.{ends_from}
use Rattle.rows.specs.declared.counting.Degree.{Degree}
use Rattle.rows.specs.declared.nesting.Fragment.{Fragment}
use Rattle.rows.specs.declared.nesting.Site.{Site}
use Rattle.rows.specs.Kinds.{kind_by}

abbrev pub degree_at : List Degree → StepNo → Degree
degree_at degrees s = slice_index_or degrees s.0 (record { ins = 0; outs = 0 })

abbrev pub link_at : List Ends → ℕ → Ends
link_at links l = slice_index_or links l (ends_from (0, 0))

-- the whole plan has no parent, no entry and no exit
abbrev pub row_in : List Ends → List Degree → List ℕ → RowNo → Fragment → Option Site → Row
row_in links degrees row_of n f None = record { number = n; parent = None; kind = Whole; entry = None; exit = None; inside = f.inside }
row_in links degrees row_of n f (Some p) =
    record {
      number = n;
      parent = Some (record { 0 = slice_index row_of p.parent });
      kind = kind_by f.own (degree_at degrees (link_at links p.entry.0).head) (degree_at degrees (link_at links p.exit.0).tail);
      entry = Some p.entry;
      exit = Some p.exit;
      inside = f.inside;
    }

abbrev pub row_by : List Ends → List Degree → List ℕ → RowNo → Fragment → Row
row_by links degrees row_of n f = row_in links degrees row_of n f f.site
