use Rattle.std.proofs.Common.{◌≡◌, length, vec_items, ◌∙◌, arith, rules}
use Rattle.std.proofs.lemmas.Bool.{cond-false, le-ltb}
use Rattle.std.proofs.lemmas.Result.{IfOk-weaker}
use Rattle.model.specs.Meaning.{logic_of}
use Rattle.plan.proofs.Asked.{logics_copied}
use Rattle.plan.proofs.copying.logics_of.Goals as goal

pub all_answers-requires-clause-ends : goal.all_answers-requires-clause-ends
all_answers-requires-clause-ends g c =
    let μ = g.P.Plan.meaning c.args.plan.now in
    let h = g.P.Plan.limits c.args.plan.now in
    let n = length μ.logics in
    (n, omega (arith, h.logic_each, h.few_steps), λ answer told. let e : answer ≡ logic_of μ n = search rules in e ∙ cond-false _ _ _ (le-ltb n n (omega arith)))

pub returns : goal.returns
returns g c =
    let μ = g.P.Plan.meaning c.args.plan.now in
    IfOk-weaker c.all_answers.result _ _ (λ v told. logics_copied μ (vec_items v) (λ k le. let t = told k le in search rules)) c.all_answers.ensures
