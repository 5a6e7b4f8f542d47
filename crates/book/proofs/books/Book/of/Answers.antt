use Rattle.std.proofs.Common.{◌≡◌, length, vec_items, sym, refl, ap, ◌∙◌, subst, arith, rules}
use Rattle.std.proofs.lemmas.List.{length-map}
use Rattle.model.specs.Meaning.{Graph, pair_of}
use Rattle.model.specs.Walks.{Sound}
use Rattle.book.proofs.Bounds.{steps_below, order_few}
use Rattle.book.proofs.Entries.{none_out}
use Rattle.book.proofs.books.Book.of.Goals as goal

pub invariant_of-classed : goal.invariant_of-classed
invariant_of-classed g c =
    let G = c.in_ok-graph.graph in
    let links = vec_items G.links in
    let o = c.in_ok-order.ensures.in_order in
    let m = length-map links pair_of in
    let logics = c.deref-2.ensures.value ∙ c.in_ok-logics.ensures in
    let steps : G.steps ≡ length c.deref-2.result.now = ap (λ (P : Graph). P.steps) c.in_ok-graph.ensures ∙ sym (g.P.Plan.limits c.args.plan.now).logic_each ∙ sym (ap length logics) in
    let few = order_few _ _ _ o in
    record {
      ends_below = rw c.deref.ensures.value (steps_below G.steps (length c.deref-2.result.now) links steps G.ends_below);
      order_below = rw (c.deref.ensures.value, c.deref-3.ensures.value) (λ k lt. omega (arith, o.below k lt));
      few = omega (arith, ap length c.deref-3.ensures.value);
      each = search rules;
      classes_below = rw (c.deref.ensures.value, c.deref-4.ensures.value) (λ k lt. omega (arith, c.in_ok-classes.ensures.1 k lt));
    }

pub returns : goal.returns
returns g c =
    let G = c.in_ok-graph.graph in
    let logics = c.deref-2.ensures.value ∙ c.in_ok-logics.ensures in
    record {
      sound = subst Sound c.in_ok-graph.ensures c.in_ok-order.ensures.sound;
      links = c.in_ok-classes.ensures.0 ∙ sym (length-map (vec_items G.links) pair_of) ∙ ap (λ (P : Graph). length P.links) c.in_ok-graph.ensures;
      steps = c.in_ok-rows.ensures.1 ∙ ap length logics ∙ (g.P.Plan.limits c.args.plan.now).logic_each;
      fresh = record { none_out = none_out c.deref-5.result.now _ c.in_ok-table.ensures; start = refl };
    }
