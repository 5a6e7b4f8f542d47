use Rattle.std.proofs.Common.{get_or, vec_items, arith, ◌∙◌}
use Rattle.std.proofs.lemmas.List.{get_or_default}
use Rattle.model.specs.declared.numbers.Ends.{Ends}
use Rattle.model.specs.Meaning.{ends_from}
use Rattle.rows.proofs.Counts.{linked_by-more}
use Rattle.rows.proofs.counting.degrees.Goals as goal

pub loop-ends-preserved : goal.loop-ends-preserved
loop-ends-preserved c =
    let links = c.args.links.now in
    let known = c.loop-ends.invariant in
    let at : Ends = get_or links c.loop-ends.ends-index (ends_from (0, 0)) in
    let within = c.requires c.loop-ends.ends-index c.loop-ends-test.true in
    record {
      each = known.each;
      left = linked_by-more (vec_items c.loop-ends.degrees) links c.loop-ends.ends-index at c.index_mut-tail.result.now c.index_mut-head.result.now c.saturating_add-tail.result c.saturating_add-head.result c.loop-ends-test.true
          (λ d. get_or_default links c.loop-ends.ends-index (ends_from (0, 0)) d c.loop-ends-test.true) (omega (arith, within.0, known.each, c.loop-ends.degrees.ok.0)) (omega (arith, within.1, known.each, c.loop-ends.degrees.ok.0))
          c.index_mut-tail.ensures.value c.saturating_add-tail.ensures c.index_mut-head.ensures.value c.saturating_add-head.ensures ∙ known.left;
    }
