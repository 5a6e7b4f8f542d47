use Rattle.std.proofs.Common.{rules}
use Rattle.text.proofs.Rule.{rule}
use Rattle.text.proofs.digits.entry.Goals as goal

pub returns : goal.returns
returns c = rule c.args.b (search rules)
