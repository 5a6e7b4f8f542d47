use Rattle.std.proofs.Common.{map, sym, ◌∙◌, arith}
use Rattle.std.proofs.lemmas.List.{length-map}
use Rattle.lists.proofs.Many.{popped-none}
use Rattle.model.specs.Meaning.{pair_of}
use Rattle.search.proofs.Turns.{inv_start, arc_in, turn_up, turn_seen, fresh, turn_visit, turn_done}
use Rattle.search.proofs.digraphs.Digraph.explore.Goals as goal

pub turn-init : goal.turn-init
turn-init c =
    let g = c.args.self.now in
    let m = c.in_ok-top.ensures.made in
    inv_start (map pair_of g.links.now) g.steps c.args.root.0 c.visit.new.self _ _ _ g.below c.in_ok-tree.ensures.1 m.1 m.0
    (sym c.visit.new.self.number.ok.0 ∙ c.in_ok-top.ensures.len ∙ c.in_ok-tree.ensures.0) (rw length-map c.in_ok-arcs.ensures)

pub turn-smaller-in_default : goal.turn-smaller-in_default
turn-smaller-in_default c =
    let none = c.in_default.ensures.top in
    rw (c.in_default.ensures.lists, popped-none c.turn.arcs c.index-here.result.now.step.0 none)
    (omega (arith, (turn_up _ _ _ c.args.self.now.below c.turn.tree _ _ c.turn.invariant _ c.index-here.ensures none c.if-top-eq0.false).0))

pub turn-preserved-in_default : goal.turn-preserved-in_default
turn-preserved-in_default c =
    let none = c.in_default.ensures.top in
    rw (c.in_default.ensures.lists, popped-none c.turn.arcs c.index-here.result.now.step.0 none)
    (turn_up _ _ _ c.args.self.now.below c.turn.tree _ _ c.turn.invariant _ c.index-here.ensures none c.if-top-eq0.false).1

pub returns : goal.returns
returns c =
    turn_done _ _ _ c.args.self.now.below c.turn.tree _ _ c.turn.invariant _ c.index-here.ensures c.in_default.ensures.top c.if-top-eq0.true

pub index-requires : goal.index-requires
index-requires c =
    omega (arith, c.turn.tree.number.ok.0, c.turn.invariant.long, arc_in _ _ _ c.args.self.now.below c.turn.tree _ _ c.turn.invariant _ c.index-here.ensures c.in-Some.arc c.in-Some.ensures.top)

pub turn-preserved-then-is_some : goal.turn-preserved-then-is_some
turn-preserved-then-is_some c =
    rw c.in-Some.ensures.lists
    (turn_seen _ _ _ c.args.self.now.below c.turn.tree _ _ c.turn.invariant _ c.index-here.ensures c.in-Some.arc c.in-Some.ensures.top c.index.result.now c.index.ensures (sym c.if-is_some.ensures))

pub visit-requires-in-turn : goal.visit-requires-in-turn
visit-requires-in-turn c =
    let i = c.turn.invariant in
    let lt = arc_in _ _ _ c.args.self.now.below c.turn.tree _ _ i _ c.index-here.ensures c.in-Some.arc c.in-Some.ensures.top in
    record {
      within = omega (arith, c.turn.tree.number.ok.0, i.long);
      fresh = fresh _ _ _ c.args.self.now.below c.turn.tree _ _ i _ c.index-here.ensures c.in-Some.arc c.in-Some.ensures.top c.index.result.now c.index.ensures (sym c.if-is_some.ensures);
      up = λ z. omega (arith, c.turn.tree.visits.ok.0, i.here);
    }

pub turn-preserved : goal.turn-preserved
turn-preserved c =
    let m = c.in_ok-top-2.ensures.made in
    let no = fresh _ _ _ c.args.self.now.below c.turn.tree _ _ c.turn.invariant _ c.index-here.ensures c.in-Some.arc c.in-Some.ensures.top c.index.result.now c.index.ensures (sym c.if-is_some.ensures) in
    rw c.in-Some.ensures.lists
    (turn_visit _ _ _ c.args.self.now.below c.turn.tree _ _ c.turn.invariant _ c.index-here.ensures c.in-Some.arc c.in-Some.ensures.top c.visit-in-turn.new.self _ m.1 m.2 m.0 no)
