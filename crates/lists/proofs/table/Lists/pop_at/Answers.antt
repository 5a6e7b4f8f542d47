use Rattle.std.proofs.Common.{arith}
use Rattle.lists.proofs.Tables.{shows, shown, shown_table, front_at, total_set, pop_shows}
use Rattle.lists.proofs.table.Lists.pop_at.Goals as goal

pub pop_front-requires : goal.pop_front-requires
pop_front-requires g c =
    let s = shows c.args.self.now c.self.invariant c.self.view_is in
    record { within = λ k q. omega (arith, c.self.inside.arena.cells.ok.0, front_at s c.args.j _ c.requires c.index-list.ensures k q) }

pub invariant_of-self : goal.invariant_of-self
invariant_of-self g c =
    let s = shows c.args.self.now c.self.invariant c.self.view_is in
    shown_table (pop_shows s c.args.j _ c.requires c.index-list.ensures c.in_ok-x.left c.in_ok-x.x c.in_ok-x.ensures.popped c.in_ok-x.ensures.apart).1
    (omega (arith, c.self.invariant.counted, c.in_ok-x.ensures.size, total_set s c.args.j _ c.requires c.index-list.ensures c.in_ok-x.left)) c.self.invariant.few

pub returns : goal.returns
returns g c =
    let s = shows c.args.self.now c.self.invariant c.self.view_is in
    let p = pop_shows s c.args.j _ c.requires c.index-list.ensures c.in_ok-x.left c.in_ok-x.x c.in_ok-x.ensures.popped c.in_ok-x.ensures.apart in
    record { top = p.0; lists = shown p.1 }
