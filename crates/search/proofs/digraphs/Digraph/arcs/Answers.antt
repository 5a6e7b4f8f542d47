use Rattle.std.proofs.Common.{map, arith, length-set}
use Rattle.model.specs.Meaning.{pair_of}
use Rattle.search.proofs.Rowing.{ends_at, ends_in, arcs_more}
use Rattle.search.proofs.digraphs.Digraph.arcs.Goals as goal

pub push_at-requires : goal.push_at-requires
push_at-requires c =
    let g = c.args.self.now in
    omega (arith, c.loop-i.invariant.0, (ends_in g.links.now g.steps g.below c.loop-i.i (omega arith)).0)

pub push_at-requires-in-loop-i : goal.push_at-requires-in-loop-i
push_at-requires-in-loop-i c =
    let g = c.args.self.now in
    rw c.in_ok-push_at.ensures (omega (arith, length-set c.loop-i.arcs, c.loop-i.invariant.0, (ends_in g.links.now g.steps g.below c.loop-i.i (omega arith)).1))

pub loop-i-preserved : goal.loop-i-preserved
loop-i-preserved c =
    let g = c.args.self.now in
    arcs_more g.steps (map pair_of g.links.now) _ _ _ c.loop-i.i _ (ends_at g.links.now c.loop-i.i) (ends_in g.links.now g.steps g.below c.loop-i.i (omega arith))
    c.in_ok-push_at.ensures c.in_ok-push_at-2.ensures c.loop-i.invariant
