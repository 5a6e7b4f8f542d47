use Rattle.std.proofs.Common.{List, map, ap, ◌∙◌}
use Rattle.std.proofs.lemmas.Result.{IfOk-weaker}
use Rattle.model.specs.declared.numbers.Ends.{Ends}
use Rattle.model.specs.Meaning.{pair_of}
use Rattle.plan.specs.Copied.{graph_of}
use Rattle.search.proofs.Closing.{connected}
use Rattle.search.proofs.spanning.depth_first.Goals as goal

pub returns-clause-whole : goal.returns-clause-whole
returns-clause-whole c =
    let e = ap (λ (t : List Ends). map pair_of t) c.deref.ensures.value ∙ c.in_ok-links.ensures in
    IfOk-weaker c.explore.result _ _ (λ t s sound. (rw e at s).whole (connected (graph_of c.args.graph.now) sound)) c.explore.ensures
