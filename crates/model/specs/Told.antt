-- A row of the listing as it is told: with its number, and with entry and exit apart.
use Rattle.std.specs.Prelude.{ℕ, List, Some, None, Option}
use Rattle.model.specs.declared.numbers.LinkNo.{LinkNo}
use Rattle.model.specs.declared.numbers.RowNo.{RowNo}
use Rattle.model.specs.declared.rowing.Row.{Row as ToldRow}
use Rattle.model.specs.Parts.{Part, whole, fragment}
use Rattle.model.specs.Listing.{Row, row}

abbrev pub told_parent : Option ℕ → Option RowNo
told_parent None = None
told_parent (Some i) = Some (record { 0 = i })

-- The whole plan has no entry and no exit.
abbrev pub told_entry : Part → Option LinkNo
told_entry whole = None
told_entry (fragment a b) = Some (record { 0 = a })

abbrev pub told_exit : Part → Option LinkNo
told_exit whole = None
told_exit (fragment a b) = Some (record { 0 = b })

-- Row i of the rows.
abbrev pub told_row : List Row → ℕ → ToldRow
told_row rows i =
    record {
      number = record { 0 = i };
      parent = told_parent (row rows i).parent;
      kind = (row rows i).kind;
      entry = told_entry (row rows i).part;
      exit = told_exit (row rows i).part;
      inside = (row rows i).inside;
    }
