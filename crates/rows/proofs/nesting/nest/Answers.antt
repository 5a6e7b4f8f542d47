use Rattle.std.proofs.Common.{length, get_or, rules, arith}
use Rattle.rows.specs.Bounds.{Below}
use Rattle.rows.proofs.There.{some_there}
use Rattle.rows.proofs.nesting.nest.Goals as goal

pub loop-link-preserved : goal.loop-link-preserved
loop-link-preserved c =
    let known = c.loop-link.invariant in
    let kept = c.in_ok-follow.ensures in
    record {
      steps = search rules;
      links = search rules;
      few = omega (arith, kept.more, known.few);
      entries = kept.entries (length c.args.links.now) (c.requires.order c.loop-link.link-index c.loop-link-test.true) known.entries;
      exits = λ m all. kept.exits m (some_there (Below m) c.args.exits.now (get_or c.args.order.now c.loop-link.link-index (record { 0 = 0 })).0 all) (known.exits m all);
    }
