-- How frames are spelled. A frame is a list of bytes, the kind first.
use Rattle.std.specs.Prelude.{◌≡◌, ℕ, ◌/◌, ◌%◌, List, [], ◌∷◌, ◌++◌}
use Rattle.std.specs.List.{flat_map}
use Rattle.text.specs.Digit.{hex}

-- a byte as two digits, the high one first
abbrev pub hex_pair : ℕ → List ℕ
hex_pair b = hex (b / 16) ∷ hex (b % 16) ∷ []

-- the digits of a frame, one byte after the other
abbrev pub digits_of : List ℕ → List ℕ
digits_of bytes = flat_map hex_pair bytes

-- the one text that a list of frames has: for each frame its digits and a line feed
unfoldable pub spelled : List (List ℕ) → List ℕ
spelled frames = flat_map (λ bytes. digits_of bytes ++ (10 ∷ [])) frames

-- that a text spells these frames. Whoever speaks of frames says it by this word, whatever the spelling is.
unfoldable pub Spells : List ℕ → List (List ℕ) → Type 0
Spells text frames = text ≡ spelled frames
