-- What comes out of a text.
use Rattle.std.specs.Prelude.{◌≡◌, ℕ, ◌+◌, ◌-◌, ◌<◌, ◌≤◌, ◌⊎◌, List, [], ◌∷◌, ◌++◌, map, length, Ok, Err, vec_items, count_by, Result, ◌≢◌, nat_eq, slice_index, slice_index_or}
use Rattle.std.specs.List.{AllByRecursion}
use Rattle.text.specs.Spelling.{digits_of, Spells}
use Rattle.text.specs.Line.{first_line, LineFault}
use Rattle.text.specs.declared.faults.TextFault.{TextFault}
use Rattle.text.specs.declared.faults.TextFault.TheVariants.{TooLong, NoLineFeed, EmptyLine, NoDigit, OddDigits, Memory}
use Rattle.text.specs.declared.lines.Frame.{Frame}
use Rattle.text.specs.declared.decoding.Frames.{Frames}

-- the bytes of a frame: its kind and its fields
abbrev pub bytes_of : Frame → List ℕ
bytes_of f = f.kind ∷ vec_items f.fields

-- the frame that the digits of a line spell, under the line's number
pub record Spelt (line : ℕ) (digits : List ℕ) (f : Frame) : Type 0 where
  pub numbered : f.line ≡ line
  pub spells : digits_of (bytes_of f) ≡ digits
  pub small : AllByRecursion (λ b. b < 256) (bytes_of f)

-- a frame is some bytes
abbrev pub IsFrame : List ℕ → Type 0
IsFrame bytes = (0 < length bytes) × AllByRecursion (λ b. b < 256) bytes

-- the frames that came out, as bytes
abbrev pub frames_in : Frames → List (List ℕ)
frames_in out = map bytes_of (vec_items out.frames)

-- frame k comes from line k + 1
abbrev pub Numbered : List Frame → Type 0
Numbered frames = (k : ℕ) (d : Frame) → k < length frames → (slice_index_or frames k d).line ≡ k + 1

-- why no frame comes from the bytes that are left, which begin with line n: there are none, or that line is faulty
abbrev pub Stops : ℕ → List ℕ → Result (Unit {0}) TextFault → Type 0
Stops n rest (Ok x) = rest ≡ []
Stops n rest (Err e) = (0 < length rest) × LineFault n (first_line rest) e

-- how many line feeds there are
abbrev pub line_feeds : List ℕ → ℕ
line_feeds text = count_by (λ b. nat_eq b 10) text

-- the text is empty, or its last byte is a line feed
abbrev pub Ended : List ℕ → Type 0
Ended text = 0 < length text → slice_index text (length text - 1) ≡ 10

-- what is wrong with a text as a whole; its last line is the one after the last line feed
abbrev pub WholeFault : List ℕ → TextFault → Type 0
WholeFault text TooLong = 65535 < length text
WholeFault text (NoLineFeed line) = (length text ≤ 65535) × (0 < length text) × (slice_index text (length text - 1) ≢ 10) × (line ≡ line_feeds text + 1)
WholeFault text (EmptyLine line) = ⊥
WholeFault text (NoDigit line column) = ⊥
WholeFault text (OddDigits line) = ⊥
WholeFault text Memory = ⊥

-- the frames of a text, up to its end or to the first faulty line: they are spelled at its front
pub record Read (text : List ℕ) (out : Frames) : Type 0 where
  pub short : length text ≤ 65535
  pub ended : Ended text
  pub front : List ℕ
  pub rest : List ℕ
  pub parts : text ≡ front ++ rest
  pub spells : Spells front (frames_in out)
  pub frames : AllByRecursion IsFrame (frames_in out)
  pub numbered : Numbered (vec_items out.frames)
  pub stops : Stops (length (vec_items out.frames) + 1) rest out.end

-- the answer to a text: its frames, or what is wrong with it as a whole, or nothing for want of memory
abbrev pub Decoded : List ℕ → Result Frames TextFault → Type 0
Decoded text (Ok out) = Read text out
Decoded text (Err e) = WholeFault text e ⊎ ((e ≡ Memory) × (length text ≤ 65535) × Ended text)
