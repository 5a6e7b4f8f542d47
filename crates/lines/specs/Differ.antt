-- The line of a row tells the row.
use Rattle.std.specs.Prelude.{◌≡◌, ◌^◌, ◌<◌, IfSome}
use Rattle.model.specs.declared.rowing.Row.{Row}
use Rattle.lines.specs.Lines.{row_bytes}

-- the numbers of the row have 16 bits, as the program's have
pub record Narrow (r : Row) : Type 0 where
  pub number : r.number.0 < 2 ^ 16
  pub parent : IfSome r.parent (λ p. p.0 < 2 ^ 16)
  pub entry : IfSome r.entry (λ l. l.0 < 2 ^ 16)
  pub exit : IfSome r.exit (λ l. l.0 < 2 ^ 16)
  pub inside : r.inside < 2 ^ 16

-- two rows with the same line are the same row
abbrev pub LinesDiffer : Type 0
LinesDiffer = (r s : Row) → Narrow r → Narrow s → row_bytes r ≡ row_bytes s → r ≡ s
