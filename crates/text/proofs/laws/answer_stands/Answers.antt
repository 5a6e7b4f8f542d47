use Rattle.text.proofs.Answered.{one_answer}
use Rattle.text.proofs.laws.answer_stands.Goals as goal

pub returns : goal.returns
returns c = one_answer
