-- The shape of a plan has one answer.
use Rattle.std.specs.Prelude.{◌≡◌, ◌≢◌}
use Rattle.model.specs.Meaning.{Graph}
use Rattle.search.specs.declared.shapes.ShapeFault.{ShapeFault}
use Rattle.search.specs.declared.shapes.ShapeFault.TheVariants.{Memory}
use Rattle.search.specs.Shapes.{Misshaped}
use Rattle.model.specs.Walks.{Sound}

-- want of memory aside, no two faults can be told of one plan
abbrev pub OneFault : Type 0
OneFault = (P : Graph) (f g : ShapeFault) → (f ≢ Memory) → (g ≢ Memory) → Misshaped P f → Misshaped P g → f ≡ g

-- of a sound plan none can
abbrev pub SoundHasNone : Type 0
SoundHasNone = (P : Graph) (f : ShapeFault) → Sound P → Misshaped P f → f ≡ Memory
