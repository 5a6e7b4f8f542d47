use Rattle.std.proofs.Common.{arith}
use Rattle.lists.proofs.Tables.{shows, front_at}
use Rattle.lists.proofs.table.Lists.first_at.Goals as goal

pub pop_front-requires : goal.pop_front-requires
pop_front-requires g c =
    let s = shows c.args.self.now c.self.invariant c.self.view_is in
    record { within = λ k q. omega (arith, c.self.inside.arena.cells.ok.0, front_at s c.args.j _ c.requires c.index.ensures k q) }
