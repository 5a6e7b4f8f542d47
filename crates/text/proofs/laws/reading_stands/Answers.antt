use Rattle.text.proofs.Answered.{spelled_is_read, read_is_spelled}
use Rattle.text.proofs.laws.reading_stands.Goals as goal

pub returns : goal.returns
returns c = record { back = spelled_is_read; only = read_is_spelled }
