-- The number, the layer and the place that are told of each fault of a text; none for want of memory.
use Rattle.std.specs.Prelude.{ℕ, Some, None, Option}
use Rattle.model.specs.declared.refusals.Layer.TheVariants.{Text}
use Rattle.model.specs.declared.refusals.Place.{Place}
use Rattle.model.specs.declared.refusals.Place.TheVariants.{At, Column}
use Rattle.model.specs.declared.refusals.Refusal.{Refusal}
use Rattle.text.specs.declared.faults.TextFault.{TextFault}
use Rattle.text.specs.declared.faults.TextFault.TheVariants.{TooLong, NoLineFeed, EmptyLine, NoDigit, OddDigits, Memory}

abbrev pub of_text : ℕ → Place → Option Refusal
of_text n p = Some (record { number = n; layer = Text; place = p })

abbrev pub text_refusal : TextFault → Option Refusal
text_refusal TooLong = of_text 11 (At 0)
text_refusal (NoLineFeed line) = of_text 12 (At line)
text_refusal (EmptyLine line) = of_text 13 (At line)
text_refusal (NoDigit line column) = of_text 14 (Column line column)
text_refusal (OddDigits line) = of_text 15 (At line)
text_refusal Memory = None
