-- The bytes of a row's line and of a refusal's line.
use Rattle.std.specs.Prelude.{◌≡◌, ℕ, ◌<◌, ◌≤◌, List, [], ◌∷◌, ◌++◌, length, drop, Some, None, codes, decimal, Option, Result, MatchResult}
use Rattle.std.specs.Option.{option_map}
use Rattle.model.specs.declared.refusals.Place.{Place}
use Rattle.model.specs.declared.refusals.Place.TheVariants.{At, Column}
use Rattle.model.specs.declared.refusals.Refusal.{Refusal}
use Rattle.model.specs.declared.rowing.Row.{Row}
use Rattle.model.specs.Words.{kind_word, layer_word}
use Rattle.lines.specs.declared.line.After.{After}
use Rattle.lines.specs.declared.line.After.TheVariants.{Blank, LineFeed}

-- a number in decimal, or `-` for none
abbrev pub optional : Option ℕ → List ℕ
optional None = 45 ∷ []
optional (Some n) = decimal n

-- the fields stand with one blank between them, and a line feed ends the line
abbrev pub blank : ℕ
blank = 32

abbrev pub line_feed : ℕ
line_feed = 10

-- the byte after a field
abbrev pub after_byte : After → ℕ
after_byte Blank = blank
after_byte LineFeed = line_feed

-- number, parent, word, entry, exit and inside count
abbrev pub row_bytes : Row → List ℕ
row_bytes r =
    (decimal r.number.0 ++ blank ∷ [])
    ++ ((optional (option_map (λ p. p.0) r.parent) ++ blank ∷ [])
    ++ ((kind_word r.kind ++ blank ∷ [])
    ++ ((optional (option_map (λ l. l.0) r.entry) ++ blank ∷ [])
    ++ ((optional (option_map (λ l. l.0) r.exit) ++ blank ∷ [])
    ++ (decimal r.inside ++ line_feed ∷ [])))))

abbrev pub place_bytes : Place → List ℕ
place_bytes (At n) = decimal n ++ line_feed ∷ []
place_bytes (Column line column) = (decimal line ++ blank ∷ []) ++ (decimal column ++ line_feed ∷ [])

-- `refused`, number, layer and place; the place of a column is two numbers
abbrev pub refusal_bytes : Refusal → List ℕ
refusal_bytes r =
    (codes "refused" ++ blank ∷ [])
    ++ ((decimal r.number ++ blank ∷ [])
    ++ ((layer_word r.layer ++ blank ∷ [])
    ++ place_bytes r.place))

-- a line goes into the front of a buffer of 64 bytes or more, its length, never more than 64, is answered, and the rest of the buffer is as it was;
-- a shorter buffer is refused and stays as it was
abbrev pub Lined : {E : Type 0} → List ℕ → List ℕ → Result ℕ E → List ℕ → Type 0
Lined line old r new =
    MatchResult r
    (λ n. (64 ≤ length old) × (n ≤ 64) × (n ≡ length line) × (new ≡ line ++ drop (length line) old))
    (λ _. (length old < 64) × (new ≡ old))
