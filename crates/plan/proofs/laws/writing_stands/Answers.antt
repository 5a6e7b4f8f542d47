use Rattle.plan.proofs.Determined.{writing_tells, written_is_read}
use Rattle.plan.proofs.laws.writing_stands.Goals as goal

pub returns : goal.returns
returns c = record { tells = writing_tells; back = written_is_read }
