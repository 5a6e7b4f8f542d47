use Rattle.std.proofs.Common.{◌≡◌, ◌<◌, ℕ, length, map, vec_items, sym, ap, ◌∙◌, subst, arith}
use Rattle.std.specs.List.{All}
use Rattle.std.proofs.lemmas.List.{length-map, length-take}
use Rattle.std.proofs.lemmas.List.Elements.{All-take}
use Rattle.lists.specs.Many.{row}
use Rattle.rows.specs.declared.listing.RowRun.{RowRun}
use Rattle.rows.specs.Bounds.{SomeBelow}
use Rattle.rows.specs.Nests.{entry_of, exit_of, Entries, Exits}
use Rattle.rows.specs.Orders.{Known, depth_of}
use Rattle.rows.specs.Runs.{NestedRuns}
use Rattle.rows.proofs.Sited.{length-same, linked-same}
use Rattle.rows.proofs.Nested.{nested}
use Rattle.rows.proofs.classing.Classed.arrange.Goals as goal

pub rows-requires-clause-known : goal.rows-requires-clause-known
rows-requires-clause-known c =
    let s = c.args.self.now in
    let m = length s.links.now in
    let n = c.in_ok-nesting.ensures in
    let below = c.in_ok-in_order.ensures in
    let lists = c.in_ok-in_order.field-0 in
    let fs = vec_items c.count.new.self.fragments in
    let some : 0 < length lists = omega (arith, below.0, c.count.new.self.some) in
    let links : length (vec_items c.count.new.self.entered) ≡ m = ap (λ v. length (vec_items v)) c.count.ensures.entered ∙ n.1 in
    let told : SomeBelow m c.as_slice.result.now = subst (SomeBelow m) (sym c.as_slice.ensures.value) (subst (λ (j : ℕ). SomeBelow j (vec_items c.in_ok-exits.exits)) s.each c.in_ok-exits.ensures.1) in
    let entries : Entries m fs = linked-same entry_of m (vec_items c.in_ok-nesting.nesting.fragments) fs c.count.ensures.sites n.3 in
    let exits : Exits m fs = linked-same exit_of m (vec_items c.in_ok-nesting.nesting.fragments) fs c.count.ensures.sites (n.4 m told) in
    let known : All (Known m (length fs)) (row lists 0) = subst (λ (j : ℕ). All (Known j (length fs)) (row lists 0)) links (below.2 (subst (λ (j : ℕ). Entries j fs) (sym links) entries) (subst (λ (j : ℕ). Exits j fs) (sym links) exits) 0 some) in
    let each : length (vec_items c.in_ok-table.table.row_of) ≡ length fs = c.in_ok-table.ensures.1 ∙ below.0 in
    subst (λ (j : ℕ). All (Known m j) (vec_items c.in_ok-table.table.records)) (sym each) (subst (All (Known m (length fs))) (sym c.in_ok-table.ensures.0) (All-take (Known m (length fs)) (length lists) (row lists 0) known))

pub returns : goal.returns
returns c =
    let n = c.in_ok-nesting.ensures in
    let r = c.in_ok-runs.ensures in
    let below = c.in_ok-in_order.ensures in
    let lists = c.in_ok-in_order.field-0 in
    let records = c.as_slice-3.result.now in
    let e = c.in_ok-rows.ensures ∙ c.as_slice-4.ensures.value in
    let count = length-same (vec_items c.in_ok-nesting.nesting.fragments) (vec_items c.count.new.self.fragments) c.count.ensures.sites in (
      subst NestedRuns (sym e) (nested (map depth_of records) _ (r.0 ∙ sym (length-map records depth_of)) r.1),
      omega (arith, c.in_ok-homes.ensures, n.0, ap (λ v. length (vec_items v)) c.count.ensures.homes),
      omega (arith, length-map (vec_items c.in_ok-rows.rows) (λ (r : RowRun). r.run), ap length e, r.0, ap length c.as_slice-3.ensures.value, ap length c.in_ok-table.ensures.0, length-take (length lists) (row lists 0), below.0, count, n.2, c.args.self.now.few),
    )
