use Rattle.theory.proofs.Runs.{runs_nest}
use Rattle.theory.proofs.runs_nest.Goals as goal

pub returns : goal.returns
returns c = runs_nest
