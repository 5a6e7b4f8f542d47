use Rattle.samples_theory.proofs.Opens.{book_happens}
use Rattle.samples_theory.proofs.book_happens.Goals as goal

pub returns : goal.returns
returns c = book_happens
