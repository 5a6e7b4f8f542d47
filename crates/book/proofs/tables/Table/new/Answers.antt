use Rattle.book.proofs.Entries.{runs_of_entries}
use Rattle.book.proofs.tables.Table.new.Goals as goal

pub invariant_of-result-clause-nested : goal.invariant_of-result-clause-nested
invariant_of-result-clause-nested c = runs_of_entries c.args.rows.now _ c.in_ok-entries.ensures c.requires.nested
