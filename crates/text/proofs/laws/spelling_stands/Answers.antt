use Rattle.text.proofs.Answered.{spelling_serves, spelling_tells}
use Rattle.text.proofs.laws.spelling_stands.Goals as goal

pub returns : goal.returns
returns c = record { some = spelling_serves; tells = spelling_tells }
