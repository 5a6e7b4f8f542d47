use Rattle.lines.proofs.Differ.{lines_differ}
use Rattle.lines.proofs.laws.lines_differ.Goals as goal

pub returns : goal.returns
returns c = lines_differ
