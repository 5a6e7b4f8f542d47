use Rattle.std.proofs.Common.{◌≡◌, ◌++◌, drop, vec_items}
use Rattle.book.specs.Calls.{rows_of, next_of}
use Rattle.listing.specs.Answers.{lines_of}
use Rattle.listing.proofs.answering.all_rows.Given as goal

abbrev pub invariant-loop-row : goal.invariant-loop-row
invariant-loop-row l =
    let book = l.row-iterator in
    record {
      rows : rows_of book ≡ rows_of l.fn.book;
      lines : vec_items l.lines ++ lines_of (drop (next_of book) (rows_of book)) ≡ lines_of (drop (next_of l.fn.book) (rows_of l.fn.book));
    }
