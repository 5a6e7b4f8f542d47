use Rattle.std.proofs.Common.{◌≡◌, length, vec_items, sym, ap, ◌∙◌, arith, rules}
use Rattle.std.proofs.lemmas.Bool.{cond-false, le-ltb}
use Rattle.std.proofs.lemmas.List.{length-map}
use Rattle.model.specs.Meaning.{pair_of, ends_of}
use Rattle.plan.proofs.Asked.{links_copied}
use Rattle.plan.proofs.graphs.Graph.of.Goals as goal

pub all_answers-requires-clause-ends : goal.all_answers-requires-clause-ends
all_answers-requires-clause-ends g c =
    let μ = g.P.Plan.meaning c.args.plan.now in
    let h = g.P.Plan.limits c.args.plan.now in
    let n = length μ.graph.links in
    (n, omega (arith, h.few_links), λ answer told. let e : answer ≡ ends_of μ n = search rules in e ∙ cond-false _ _ _ (le-ltb n n (omega arith)))

pub invariant_of-result : goal.invariant_of-result
invariant_of-result g c =
    let μ = g.P.Plan.meaning c.args.plan.now in
    let h = g.P.Plan.limits c.args.plan.now in
    let links = vec_items c.in_ok-links.links in
    let copied = links_copied μ links (λ k le. let t = c.in_ok-links.ensures k le in search rules) in
    let long : length links ≡ length μ.graph.links = sym (length-map links pair_of) ∙ ap length copied in
    record {
      some_steps = omega (arith, h.some_steps);
      few_steps = omega (arith, h.few_steps);
      some_links = omega (arith, h.some_links);
      few_links = omega (arith, h.few_links);
      ends_below = rw (c.step_count.ensures, copied) h.ends_below;
      first_below = omega (arith, h.first_below);
      last_below = omega (arith, h.last_below);
      apart = λ e. h.apart (sym c.first.ensures ∙ e ∙ c.last.ensures);
    }

pub returns : goal.returns
returns g c =
    let links = vec_items c.in_ok-links.links in
    let copied = links_copied (g.P.Plan.meaning c.args.plan.now) links (λ k le. let t = c.in_ok-links.ensures k le in search rules) in
    rw (c.step_count.ensures, copied, c.first.ensures, c.last.ensures)
