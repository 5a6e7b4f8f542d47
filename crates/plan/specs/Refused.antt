-- The number, the layer and the place that are told of each fault of a table; none for want of memory.
use Rattle.std.specs.Prelude.{ℕ, Some, None, Option}
use Rattle.model.specs.declared.refusals.Layer.TheVariants.{Plan}
use Rattle.model.specs.declared.refusals.Place.TheVariants.{At}
use Rattle.model.specs.declared.refusals.Refusal.{Refusal}
use Rattle.text.specs.Refused.{text_refusal}
use Rattle.plan.specs.declared.faults.PlanFault.{PlanFault}
use Rattle.plan.specs.declared.faults.PlanFault.TheVariants.{Text, KindNotAllowed, WrongLength, BadLogic, TooManySteps, TooManyLinks, NoStep, Incomplete, BadEnds, Memory}

abbrev pub of_plan : ℕ → ℕ → Option Refusal
of_plan n line = Some (record { number = n; layer = Plan; place = At line })

-- a fault of the text is told as the text tells it
abbrev pub plan_refusal : PlanFault → Option Refusal
plan_refusal (Text e) = text_refusal e
plan_refusal (KindNotAllowed line) = of_plan 21 line
plan_refusal (WrongLength line) = of_plan 22 line
plan_refusal (BadLogic line) = of_plan 23 line
plan_refusal (TooManySteps line) = of_plan 25 line
plan_refusal (TooManyLinks line) = of_plan 26 line
plan_refusal (NoStep line) = of_plan 27 line
plan_refusal (Incomplete line) = of_plan 28 line
plan_refusal BadEnds = of_plan 29 1
plan_refusal Memory = None
