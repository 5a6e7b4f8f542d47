-- How a table is written: the frames of a meaning. A frame is a list of bytes, the kind first.
use Rattle.std.specs.Prelude.{ℕ, ◌/◌, ◌%◌, List, [], ◌∷◌, ◌++◌, map}
use Rattle.model.specs.Meaning.{Meaning}
use Rattle.model.specs.Words.{logic_number}
use Rattle.model.specs.declared.numbers.Logic.{Logic}

-- a number as two bytes, the high one first
abbrev pub two_bytes : ℕ → List ℕ
two_bytes n = n / 256 ∷ n % 256 ∷ []

-- two numbers, as a head and a link have them
abbrev pub two_numbers : ℕ → ℕ → List ℕ
two_numbers a b = two_bytes a ++ two_bytes b

-- kind 01, the head: the first and the last step
abbrev pub head_frame : ℕ → ℕ → List ℕ
head_frame first last = 0x01 ∷ two_numbers first last

-- kind 10, a step: its logic
abbrev pub step_frame : Logic → List ℕ
step_frame logic = 0x10 ∷ logic_number logic ∷ []

-- kind 20, a link: its tail and its head
abbrev pub link_frame : ℕ × ℕ → List ℕ
link_frame p = 0x20 ∷ two_numbers p.0 p.1

-- the head, then every step, then every link, in order of number
abbrev pub frames_of : Meaning → List (List ℕ)
frames_of μ =
    head_frame μ.graph.first μ.graph.last ∷ (map step_frame μ.logics ++ map link_frame μ.graph.links)
