use Rattle.std.proofs.Common.{arith}
use Rattle.rows.proofs.Sited.{site-read}
use Rattle.rows.proofs.nesting.Nesting.left.Goals as goal

pub returns-then-eq-clause-within : goal.returns-then-eq-clause-within
returns-then-eq-clause-within c = omega (arith, site-read _ _ _ _ c.args.self.now.sites c.requires c.index.ensures c.in-Some.is, c.requires)
