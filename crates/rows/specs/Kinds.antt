-- The kind of a fragment by the counts of its own steps.
use Rattle.std.specs.Prelude.{ℕ, ◌+◌, min, Bool, true, false, cond, ◌&&◌, ◌||◌, ◌==◌, nat_le}
use Rattle.model.specs.declared.kinds.Kind.{Kind}
use Rattle.model.specs.declared.kinds.Kind.TheVariants.{Single, Choice, Parallel, Loop, MeshOne, MeshAll, Mixed}
use Rattle.model.specs.declared.numbers.Logic.{Logic}
use Rattle.model.specs.declared.numbers.Logic.TheVariants.{One, All}
use Rattle.rows.specs.declared.counting.Degree.{Degree}
use Rattle.rows.specs.declared.kinding.Own.{Own}

-- a step branches when two or more links enter it, or two or more leave it;
-- it opens with one in and several out, and closes with several in and one out
abbrev pub branching : Degree → Bool
branching d = nat_le 2 d.ins || nat_le 2 d.outs

abbrev pub opening : Degree → Bool
opening d = d.ins == 1 && nat_le 2 d.outs

abbrev pub closing : Degree → Bool
closing d = nat_le 2 d.ins && d.outs == 1

-- a count that stops at the end of its type
abbrev pub counted : ℕ → Bool → ℕ
counted n more = cond more (min (n + 1) 65535) n

abbrev pub is_one : Logic → Bool
is_one One = true
is_one All = false

abbrev pub none_own : Own
none_own = record { steps = 0; ones = 0; branching = 0; branching_ones = 0 }

abbrev pub with_own : Own → Logic → Bool → Own
with_own o l b =
    record {
      steps = counted o.steps true;
      ones = counted o.ones (is_one l);
      branching = counted o.branching b;
      branching_ones = counted o.branching_ones (is_one l && b);
    }

-- the first that fits
abbrev pub kind_by : Own → Degree → Degree → Kind
kind_by o head tail =
    cond (o.branching == 0) Single
    (cond (o.steps == 2 && (o.ones == 2 && (opening head && closing tail))) Choice
    (cond (o.steps == 2 && (o.ones == 0 && (opening head && closing tail))) Parallel
    (cond (o.steps == 2 && (o.ones == 2 && (closing head && opening tail))) Loop
    (cond (o.steps == 1 && o.ones == 1) Loop
    (cond (o.branching_ones == o.branching) MeshOne
    (cond (o.branching_ones == 0) MeshAll Mixed))))))
