use Rattle.std.proofs.Common.{length, ap, arith}
use Rattle.lists.proofs.Chains.{default_nil}
use Rattle.lists.proofs.Tables.{shown, shown_table, new_shows, new_total}
use Rattle.lists.proofs.table.Lists.new.Goals as goal

pub returns : goal.returns
returns g c =
    shown (new_shows _ c.args.n _ (c.in_ok-chains.ensures.items_if_clones_equal (λ y e. e)) (default_nil c.default.result c.default.ensures) _)

pub invariant_of-result : goal.invariant_of-result
invariant_of-result g c =
    let copies = c.in_ok-chains.ensures.items_if_clones_equal (λ y e. e) in
    let empty = default_nil c.default.result c.default.ensures in
    let none = ap length c.new.ensures in
    shown_table (new_shows _ c.args.n _ copies empty _) (omega (arith, new_total _ c.args.n _ copies empty)) (omega arith)
