-- What an opening leaves in a book.
use Rattle.std.specs.Prelude.{◌≡◌, [], ◌∷◌, length, None, vec_items}
use Rattle.model.specs.declared.kinds.Kind.TheVariants.{Whole}
use Rattle.model.specs.declared.rowing.Row.{Row}
use Rattle.model.specs.Meaning.{Meaning}
use Rattle.model.specs.Walks.{Sound}
use Rattle.book.specs.declared.books.Book.{Book}
use Rattle.book.specs.Tables.{runs_in, NoneOut}
use Rattle.book.specs.Calls.{rows_of, next_of}

-- no row is out, and the listing is at its start
pub record Fresh (b : Book) : Type 0 where
  pub none_out : NoneOut (vec_items b.table.entries)
  pub start : next_of b ≡ 0

-- the book of a sound plan: a class for each of its links, and a row for each of its steps
pub record Opened (μ : Meaning) (b : Book) : Type 0 where
  pub sound : Sound μ.graph
  pub links : length (vec_items b.classes) ≡ length μ.graph.links
  pub steps : length (vec_items b.homes) ≡ μ.graph.steps
  pub fresh : Fresh b

-- the one row of the smallest plan
abbrev pub whole_of_two : Row
whole_of_two = record { number = record { 0 = 0 }; parent = None; kind = Whole; entry = None; exit = None; inside = 2 }

-- the book of one link from step 0 to step 1
pub record Smallest (b : Book) : Type 0 where
  pub classes : vec_items b.classes ≡ record { 0 = 0 } ∷ []
  pub homes : vec_items b.homes ≡ record { 0 = 0 } ∷ record { 0 = 0 } ∷ []
  pub rows : rows_of b ≡ whole_of_two ∷ []
  pub runs : runs_in (vec_items b.table.entries) ≡ 1 ∷ []
  pub fresh : Fresh b
