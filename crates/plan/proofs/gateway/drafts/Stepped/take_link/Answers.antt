use Rattle.std.proofs.Common.{length, vec_items, rules}
use Rattle.plan.proofs.Drafted.{ends_more}
use Rattle.plan.proofs.gateway.drafts.Stepped.take_link.Goals as goal

pub invariant_of-result-clause-ends_below : goal.invariant_of-result-clause-ends_below
invariant_of-result-clause-ends_below c =
    ends_more (length (vec_items c.args.self.logics)) (vec_items c.args.links) (vec_items c.push.new.self) _ c.in_ok-push.ensures.items c.requires.below (search rules) (search rules)
