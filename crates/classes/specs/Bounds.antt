-- Numbers that name something that is there.
use Rattle.std.specs.Prelude.{ℕ, ◌<◌}
use Rattle.model.specs.declared.numbers.LinkNo.{LinkNo}

abbrev pub Below : ℕ → LinkNo → Type 0
Below m l = l.0 < m
