-- What is told of a buffer that is too short.
use Rattle.model.specs.declared.refusals.Layer.TheVariants.{Book}
use Rattle.model.specs.declared.refusals.Place.TheVariants.{At}
use Rattle.model.specs.declared.refusals.Refusal.{Refusal}

abbrev pub short_refusal : Refusal
short_refusal = record { number = 65; layer = Book; place = At 64 }
