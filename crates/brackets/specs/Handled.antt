-- The numbers of a search from k on are handled.
use Rattle.std.specs.Prelude.{ℕ, length, vec_items}
use Rattle.lists.specs.Many.{row}
use Rattle.naming.specs.Classes.{top_at, length_at}
use Rattle.search.specs.Spans.{link_of}
use Rattle.brackets.specs.declared.spanning.Spanning.{Spanning}
use Rattle.brackets.specs.declared.holding.Name.{Name}
use Rattle.brackets.specs.declared.holding.Sweep.{Sweep}
use Rattle.brackets.specs.Method.{links_of, visits_of, size_of, number_of, method, back_ends_of}
use Rattle.brackets.specs.Swept.{Begun, Swept}

-- all links of a search are looked at, and no number is handled
abbrev pub Begins : Spanning → Sweep → Type 0
Begins s w = Begun (links_of s) (size_of s) (number_of s) (link_of (visits_of s)) (length (links_of s)) (row w.brackets) (vec_items w.levels)

abbrev pub Handled : Spanning → ℕ → Sweep → Type 0
Handled s k w = Swept (method s) (back_ends_of s) k (row w.brackets) (vec_items w.levels)

-- the name of the tree link above v, by the list of v as it is defined
abbrev pub name_of : Spanning → ℕ → Name
name_of s v = record { top = top_at (method s) v; len = length_at (method s) v }
