-- The latest link that a bracket named.
use Rattle.std.specs.Prelude.{ℕ, ◌<◌}
use Rattle.classes.specs.declared.names.Latest.{Latest}

-- the link is one of the closed plan's
abbrev pub Named : ℕ → Latest → Type 0
Named m x = x.link.0 < m
