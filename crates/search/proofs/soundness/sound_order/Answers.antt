use Rattle.std.proofs.Common.{ℕ, List, map, length, sym, ap, subst, arith}
use Rattle.std.proofs.lemmas.List.{length-map}
use Rattle.model.specs.Meaning.{EndsBelow, pair_of}
use Rattle.search.specs.Walks.{turned_ends}
use Rattle.search.proofs.Turned.{turned_of, turned_below}
use Rattle.search.proofs.Shaping.{missed, none_missed, all_listed, both, missed_back}
use Rattle.search.proofs.soundness.sound_order.Goals as goal

pub returns-in-Some : goal.returns-in-Some
returns-in-Some c =
    let w = rw c.as_slice-links.ensures.value at c.in_ok-order.ensures in
    let m = missed _ _ _ _ _ w c.in-Some.step.0 c.in-Some.ensures in
    (c.in_ok-check_ends.ensures.0, c.in_ok-check_ends.ensures.1, m.0, m.1, m.2)

pub invariant_of-order_from-2 : goal.invariant_of-order_from-2
invariant_of-order_from-2 c =
    let g = c.args.graph.now in
    let e = turned_of _ _ _ _ c.as_slice-links.ensures.value c.in_ok-turned.ensures c.as_slice-links-2.ensures.value in
    record {
      below = subst (λ (G : List (ℕ × ℕ)). EndsBelow g.steps G) (sym e) (turned_below (map pair_of g.links.items) g.steps g.ends_below);
      few = omega (arith, ap length c.as_slice-links-2.ensures.value, ap length c.in_ok-turned.ensures, length-map c.as_slice-links.result.now turned_ends, ap length c.as_slice-links.ensures.value, g.few_links);
    }

pub returns-in-Some-first_missed : goal.returns-in-Some-first_missed
returns-in-Some-first_missed c =
    let w = rw c.as_slice-links.ensures.value at c.in_ok-order.ensures in
    let e = turned_of _ _ _ _ c.as_slice-links.ensures.value c.in_ok-turned.ensures c.as_slice-links-2.ensures.value in
    let y = rw e at c.in_ok-back.ensures in
    let m = missed_back _ _ _ _ (missed _ _ _ _ _ y c.in-Some-first_missed.step.0 c.in-Some-first_missed.ensures) in
    (c.in_ok-check_ends.ensures.0, c.in_ok-check_ends.ensures.1, none_missed _ _ _ _ _ w c.in_default.ensures, m.0, m.1, m.2)

pub returns : goal.returns
returns c =
    let g = c.args.graph.now in
    let w = rw c.as_slice-links.ensures.value at c.in_ok-order.ensures in
    let e = turned_of _ _ _ _ c.as_slice-links.ensures.value c.in_ok-turned.ensures c.as_slice-links-2.ensures.value in
    let y = rw e at c.in_ok-back.ensures in
    record {
      sound = record {
        begins = g.first_below;
        ends = g.last_below;
        within = g.ends_below;
        none_in = c.in_ok-check_ends.ensures.0;
        none_out = c.in_ok-check_ends.ensures.1;
        between = both _ _ _ _ (none_missed _ _ _ _ _ w c.in_default.ensures) (none_missed _ _ _ _ _ y c.in_default-first_missed.ensures);
      };
      in_order = w.in_order;
      whole = all_listed _ _ _ _ _ w c.in_default.ensures g.ends_below;
    }
