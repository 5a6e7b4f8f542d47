use Rattle.std.proofs.Common.{ap}
use Rattle.std.specs.Option.{is_some}
use Rattle.lists.proofs.Chains.{default_nil, empty_front, pop_one, pop_more}
use Rattle.lists.proofs.cells.Arena.pop_front.Goals as goal

pub returns-in_err-front-clause-popped : goal.returns-in_err-front-clause-popped
returns-in_err-front-clause-popped g c = λ xs h. rw c.from_residual.ensures (empty_front _ _ xs (ap is_some c.in_err-front.was) h)

pub returns-then-list-eq1-clause-popped : goal.returns-then-list-eq1-clause-popped
returns-then-list-eq1-clause-popped g c =
    pop_one _ c.args.list c.in_ok-front.front c.index-c.result.now c.in_ok-front.was c.index-c.ensures c.default.result (default_nil c.default.result c.default.ensures) c.if-list-eq1.true

pub returns-clause-popped : goal.returns-clause-popped
returns-clause-popped g c =
    pop_more _ c.args.list c.in_ok-front.front c.index-c.result.now c.in_ok-front.was c.index-c.ensures c.if-list-eq1.false
