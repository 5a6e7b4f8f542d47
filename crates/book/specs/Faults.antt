-- The number, the layer and the place of each fault of a book.
use Rattle.model.specs.declared.refusals.Layer.TheVariants.{Book}
use Rattle.model.specs.declared.refusals.Place.TheVariants.{At}
use Rattle.model.specs.declared.refusals.Refusal.{Refusal}
use Rattle.book.specs.declared.faults.BookFault.{BookFault}
use Rattle.book.specs.declared.faults.BookFault.TheVariants.{NoStep, NoLink}

abbrev pub book_refusal : BookFault → Refusal
book_refusal (NoStep s) = record { number = 64; layer = Book; place = At s.0 }
book_refusal (NoLink l) = record { number = 66; layer = Book; place = At l.0 }
