use Rattle.theory.proofs.Answers.{one_answer}
use Rattle.theory.proofs.answers_are_one.Goals as goal

pub returns : goal.returns
returns c = one_answer
