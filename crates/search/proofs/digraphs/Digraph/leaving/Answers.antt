use Rattle.std.proofs.Common.{ℕ, map, ap, arith}
use Rattle.model.specs.Meaning.{pair_of}
use Rattle.search.proofs.Rowing.{ends_at, ends_in}
use Rattle.search.proofs.Ordering.{leaving_more}
use Rattle.search.proofs.digraphs.Digraph.leaving.Goals as goal

pub push_at-requires : goal.push_at-requires
push_at-requires c =
    let g = c.args.self.now in
    omega (arith, c.loop-i.invariant.0, (ends_in g.links.now g.steps g.below c.loop-i.i (omega arith)).0)

pub loop-i-preserved : goal.loop-i-preserved
loop-i-preserved c =
    let g = c.args.self.now in
    leaving_more g.steps (map pair_of g.links.now) _ _ c.loop-i.i _ (ap (λ (p : ℕ × ℕ). p.0) (ends_at g.links.now c.loop-i.i)) (ends_in g.links.now g.steps g.below c.loop-i.i (omega arith)).0
    c.in_ok-push_at.ensures c.loop-i.invariant
