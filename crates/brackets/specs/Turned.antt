-- What is left when one of n numbers is handled: the caps have numbers behind the `many` links, and v hands its list on to its parent.
use Rattle.std.specs.Prelude.{ℕ, ◌+◌, ◌-◌, ◌^◌, ◌<◌, min, List, length, Option}
use Rattle.std.specs.Option.{option_map}
use Rattle.lists.specs.Rows.{top}
use Rattle.brackets.specs.declared.levels.Level.{Level}
use Rattle.brackets.specs.declared.holding.Bracket.{Bracket}
use Rattle.brackets.specs.declared.holding.Name.{Name}
use Rattle.brackets.specs.Levels.{level, change, having_child, Room}
use Rattle.brackets.specs.Live.{left, passed, with_cap, capped_levels}

module _ (n many : ℕ) (levels : List Level) (rows : ℕ → List Bracket) (v : ℕ) where
  -- the lists with the cap of v, and what v leaves of its own
  abbrev pub rows_capped : ℕ → List Bracket
  rows_capped = with_cap n many levels rows v

  abbrev pub list_after : List Bracket
  list_after = left rows_capped v (n + v)

  -- how long the list of v is, ended brackets not counted
  abbrev pub len_after : ℕ
  len_after = length (rows_capped (n + v)) + (level levels v).len - (level levels v).ends

  -- the name of the tree link above v
  abbrev pub top_after : Option ℕ
  top_after = option_map (λ b. b.item) (top list_after)

  abbrev pub name_after : Option Name
  name_after = option_map (λ b. record { top = b.item; len = len_after }) (top list_after)

  module _ (parent : ℕ) where
    abbrev pub rows_after : ℕ → List Bracket
    rows_after = passed rows_capped v (n + v) parent

    abbrev pub levels_after : List Level
    levels_after = change (capped_levels levels v) parent (λ l. having_child l (min (level levels v).hi0 (level levels v).hi1) len_after)

    -- the counts can be held
    pub record Fits : Type 0 where
      pub room : Room levels
      pub list : length (rows_capped (n + v)) + (level levels v).len < 2 ^ 32
      pub children : len_after + (level (capped_levels levels v) parent).len < 2 ^ 32
