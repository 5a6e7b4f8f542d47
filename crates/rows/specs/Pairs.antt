-- Links of one class.
use Rattle.std.specs.Prelude.{◌≡◌, ℕ, List, Some, None, Option, slice_index_or}
use Rattle.model.specs.declared.numbers.LinkNo.{LinkNo}

abbrev pub class_at : List LinkNo → LinkNo → ℕ
class_at classes l = (slice_index_or classes l.0 (record { 0 = 0 })).0

-- the exit that a link has shares its class
abbrev pub Paired : List LinkNo → List (Option LinkNo) → Type 0
Paired classes exits = (k : ℕ) (x : LinkNo) → slice_index_or exits k None ≡ Some x → class_at classes (record { 0 = k }) ≡ class_at classes x
