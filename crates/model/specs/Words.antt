-- The number and the word of each kind, logic and layer.
use Rattle.std.specs.Prelude.{◌≡◌, ℕ, ◌<◌, List, codes, Result, MatchResult}
use Rattle.model.specs.declared.kinds.Kind.{Kind}
use Rattle.model.specs.declared.kinds.Kind.TheVariants.{Whole, Single, Choice, Parallel, Loop, MeshOne, MeshAll, Mixed}
use Rattle.model.specs.declared.numbers.Logic.{Logic}
use Rattle.model.specs.declared.numbers.Logic.TheVariants.{One, All}
use Rattle.model.specs.declared.numbers.NotALogic.{NotALogic}
use Rattle.model.specs.declared.refusals.Layer.{Layer}
use Rattle.model.specs.declared.refusals.Layer.TheVariants.{Text, Plan, Shape, Book}

abbrev pub kind_number : Kind → ℕ
kind_number Whole = 0
kind_number Single = 1
kind_number Choice = 2
kind_number Parallel = 3
kind_number Loop = 4
kind_number MeshOne = 5
kind_number MeshAll = 6
kind_number Mixed = 7

abbrev pub kind_word : Kind → List ℕ
kind_word Whole = codes "whole"
kind_word Single = codes "single"
kind_word Choice = codes "choice"
kind_word Parallel = codes "parallel"
kind_word Loop = codes "loop"
kind_word MeshOne = codes "mesh-one"
kind_word MeshAll = codes "mesh-all"
kind_word Mixed = codes "mixed"

abbrev pub logic_number : Logic → ℕ
logic_number One = 0
logic_number All = 1

-- r is the logic that has this number, or tells the number where no logic has it
abbrev pub NumbersLogic : ℕ → Result Logic NotALogic → Type 0
NumbersLogic n r = MatchResult r (λ l. logic_number l ≡ n) (λ e. (e.0 ≡ n) × (1 < n))

abbrev pub layer_word : Layer → List ℕ
layer_word Text = codes "text"
layer_word Plan = codes "plan"
layer_word Shape = codes "shape"
layer_word Book = codes "book"
