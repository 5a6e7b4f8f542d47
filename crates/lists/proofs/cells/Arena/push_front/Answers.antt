use Rattle.std.proofs.Common.{◌∙◌}
use Rattle.lists.proofs.Chains.{pushed_holds, pushed_frame, push_apart}
use Rattle.lists.proofs.cells.Arena.push_front.Goals as goal

pub returns-clause-pushed : goal.returns-clause-pushed
returns-clause-pushed g c =
    pushed_holds c.args.self.now.cells.items c.args.list c.args.x c.len-n.result c.or.result (c.len-n.ensures ∙ c.args.self.now.cells.ok.0) c.or.ensures _ c.in_ok-push.ensures.items

pub returns-clause-frame : goal.returns-clause-frame
returns-clause-frame g c = pushed_frame _ _ _ c.in_ok-push.ensures.items

pub returns-clause-apart : goal.returns-clause-apart
returns-clause-apart g c =
    push_apart c.args.self.now.cells.items c.args.list c.args.x c.len-n.result c.or.result (c.len-n.ensures ∙ c.args.self.now.cells.ok.0) c.or.ensures
