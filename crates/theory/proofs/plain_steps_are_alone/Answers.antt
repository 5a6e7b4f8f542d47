use Rattle.theory.proofs.Plain.{plain_alone}
use Rattle.theory.proofs.plain_steps_are_alone.Goals as goal

pub returns : goal.returns
returns c = plain_alone
