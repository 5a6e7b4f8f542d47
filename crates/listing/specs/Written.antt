-- The bytes of a line of the answer.
use Rattle.std.specs.Prelude.{ℕ, List}
use Rattle.lines.specs.Lines.{row_bytes, refusal_bytes}
use Rattle.listing.specs.declared.answering.Line.{Line}
use Rattle.listing.specs.declared.answering.Line.TheVariants.{Row, Refusal}

abbrev pub line_bytes : Line → List ℕ
line_bytes (Row r) = row_bytes r
line_bytes (Refusal r) = refusal_bytes r
