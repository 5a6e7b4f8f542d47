use Rattle.std.proofs.Common.{arith}
use Rattle.std.proofs.lemmas.Result.{err_from_is_err_and}
use Rattle.lists.proofs.Tables.{shows, shown, shown_table, frame_shows, push_shows, total_set}
use Rattle.lists.proofs.table.Lists.push_at.Goals as goal

pub invariant_of-self : goal.invariant_of-self
invariant_of-self g c =
    let s = shows c.args.self.now c.self.invariant c.self.view_is in
    let size = c.in_err-more.ensures.size in
    shown_table (frame_shows s _ c.in_err-more.ensures.frame) (omega (arith, c.self.invariant.counted)) (omega (arith, c.self.invariant.few))

pub returns-in_err-more : goal.returns-in_err-more
returns-in_err-more g c =
    let s = shows c.args.self.now c.self.invariant c.self.view_is in
    let p = err_from_is_err_and c.from_residual.result c.from_residual.ensures.1 in
    rw p.1 (shown (frame_shows s _ c.in_err-more.ensures.frame))

pub invariant_of-self-2 : goal.invariant_of-self-2
invariant_of-self-2 g c =
    let s = shows c.args.self.now c.self.invariant c.self.view_is in
    let size = c.in_ok-more.ensures.size in
    shown_table (push_shows s c.args.j _ c.requires c.index-list.ensures _ c.in_ok-more.more c.args.x c.in_ok-more.ensures.frame c.in_ok-more.ensures.pushed c.in_ok-more.ensures.apart)
    (omega (arith, c.self.invariant.counted, total_set s c.args.j _ c.requires c.index-list.ensures c.in_ok-more.more)) (omega arith)

pub returns : goal.returns
returns g c =
    let s = shows c.args.self.now c.self.invariant c.self.view_is in
    shown (push_shows s c.args.j _ c.requires c.index-list.ensures _ c.in_ok-more.more c.args.x c.in_ok-more.ensures.frame c.in_ok-more.ensures.pushed c.in_ok-more.ensures.apart)
