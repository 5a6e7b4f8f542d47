-- A turn of the sweep, by what the program reads and writes.
use Rattle.std.proofs.Common.{◌≡◌, ℕ, suc, ◌+◌, ◌-◌, ◌<◌, ◌≤◌, min, ◌&&◌, eqb, List, length, Some, None, Option, vec_items, sym, ap, ◌∙◌, subst, add-one, arith}
use Rattle.std.proofs.lemmas.Option.{none-some, same_Some}
use Rattle.std.specs.Option.{option_map}
use Rattle.lists.specs.Many.{row}
use Rattle.lists.specs.Rows.{top}
use Rattle.naming.specs.Names.{ending_at}
use Rattle.naming.specs.Built.{shape_of}
use Rattle.naming.specs.Searched.{Upward, base_of}
use Rattle.naming.specs.Turns.{later}
use Rattle.naming.specs.Classes.{top_at, length_at}
use Rattle.naming.specs.DepthFirst.{to_end, is_back}
use Rattle.naming.specs.Ended.{cap_ends}
use Rattle.naming.proofs.DepthFirst.{upward}
use Rattle.naming.proofs.Ended.{ends_counted}
use Rattle.search.specs.Spans.{par_of, step_of, link_of}
use Rattle.brackets.specs.declared.levels.Level.{Level}
use Rattle.brackets.specs.declared.spanning.Spanning.{Spanning}
use Rattle.brackets.specs.declared.holding.Bracket.{Bracket}
use Rattle.brackets.specs.declared.holding.Name.{Name}
use Rattle.brackets.specs.declared.holding.Sweep.{Sweep}
use Rattle.brackets.specs.Levels.{Room, level, having_child, change}
use Rattle.brackets.specs.Live.{capped_levels}
use Rattle.brackets.specs.Method.{links_of, visits_of, size_of, number_of, method, back_ends_of, Whole}
use Rattle.brackets.specs.Swept.{Swept}
use Rattle.brackets.specs.Handled.{Handled, name_of}
use Rattle.brackets.specs.Turned.{list_after, len_after, name_after, rows_after, levels_after, Fits}
use Rattle.brackets.proofs.Seen.{how_many_most, cap_ends_most}
use Rattle.brackets.proofs.Turn.{top_told, length_told, turned, parent_few, list_few}

-- a list with a top has a name
named : (o : Option Bracket) (t l : ℕ) → Some t ≡ option_map (λ b. b.item) o → option_map {U = Name} (λ b. record { top = b.item; len = l }) o ≡ Some (record { top = t; len = l })
named None t l e = absurd (none-some t (sym e))
named (Some b) t l e = ap (λ (i : ℕ). Some (record { top = i; len = l })) (same_Some b.item t (sym e))

-- what a turn leaves of m numbers and so many links: the counts fit, v has its name, and the numbers from v on are handled
abbrev pub Turned : Spanning → Sweep → ℕ → ℕ → ℕ → ℕ → Type 0
Turned s w v m links u =
    Fits m links (vec_items w.levels) (row w.brackets) v u × (name_after m links (vec_items w.levels) (row w.brackets) v ≡ Some (name_of s v))
    × Swept (method s) (back_ends_of s) v (rows_after m links (vec_items w.levels) (row w.brackets) v u) (levels_after m links (vec_items w.levels) (row w.brackets) v u)

module _ (s : Spanning) (whole : Whole s) (v : ℕ) (inner : 0 < v) (within : v < size_of s) (w : Sweep) (H : Handled s (v + 1) w) where
  abbrev n : ℕ
  n = size_of s

  abbrev many : ℕ
  many = length (links_of s)

  abbrev parent : ℕ
  parent = par_of (visits_of s) v

  abbrev rows : ℕ → List Bracket
  rows = row w.brackets

  abbrev levels : List Level
  levels = vec_items w.levels

  good : Upward (method s)
  good = upward (links_of s) (size_of s) whole.within (number_of s) (step_of (visits_of s)) (par_of (visits_of s)) (link_of (visits_of s)) whole.tree

  counted : (p : ℕ) → p < size_of s →
      length (ending_at (shape_of (base_of (method s))) p (later (base_of (method s)) (suc p))) ≡ back_ends_of s p + cap_ends (method s) (size_of s - suc p) (suc p) p
  counted = ends_counted (links_of s) (size_of s) whole.within (number_of s) (step_of (visits_of s)) (par_of (visits_of s)) (link_of (visits_of s)) whole.tree

  some : 0 < length_at (method s) v
  some = whole.bracketed v inner within

  swept : Swept (method s) (back_ends_of s) (suc v) (row w.brackets) (vec_items w.levels)
  swept = subst (λ (i : ℕ). Swept (method s) (back_ends_of s) i (row w.brackets) (vec_items w.levels)) (add-one v) H

  few_ends : (p : ℕ) → p < n → (level levels p).ends ≤ length (links_of s) + n
  few_ends p l =
      let a = swept.ends p l in
      let b = how_many_most (λ e. is_back (links_of s) (size_of s) (number_of s) (link_of (visits_of s)) e && eqb (to_end (links_of s) (size_of s) (number_of s) (link_of (visits_of s)) e) p) (length (links_of s)) in
      let c = cap_ends_most (method s) (n - suc v) (suc v) p in
      omega arith

  room : Room levels
  room p l =
      let a = few_ends p (let b = swept.long in omega arith) in
      let c = whole.few_links in
      let d = whole.few_numbers in
      omega arith

  -- the length of the list of v
  len_is : len_after n many levels rows v ≡ length_at (method s) v
  len_is = let a = length_told (method s) good (back_ends_of s) counted v inner within some (row w.brackets) (vec_items w.levels) swept in omega arith

  fits : Fits n many levels rows v parent
  fits =
      let c = whole.few_links in
      let d = whole.few_numbers in
      record {
        room = room;
        list =
            let a = length_told (method s) good (back_ends_of s) counted v inner within some (row w.brackets) (vec_items w.levels) swept in
            let b = list_few (method s) good (back_ends_of s) counted v inner within some (row w.brackets) (vec_items w.levels) swept in
            let f = few_ends v within in
            omega arith;
        children =
            let a = parent_few (method s) good (back_ends_of s) counted v inner within some (row w.brackets) (vec_items w.levels) swept in
            let b = len_is in
            omega arith;
      }

  name_is : name_after n many levels rows v ≡ Some (name_of s v)
  name_is =
      named (top (list_after n many levels rows v)) (top_at (method s) v) (len_after n many levels rows v) (top_told (method s) good (back_ends_of s) counted v inner within some (row w.brackets) (vec_items w.levels) swept) ∙
      ap (λ (l : ℕ). Some (record { top = top_at (method s) v; len = l })) len_is

  swept_after : Swept (method s) (back_ends_of s) v (rows_after n many levels rows v parent) (levels_after n many levels rows v parent)
  swept_after =
      subst (λ (l : ℕ). Swept (method s) (back_ends_of s) v (rows_after n many levels rows v parent) (change (capped_levels levels v) parent (λ t. having_child t (min (level levels v).hi0 (level levels v).hi1) l))) (sym len_is)
      (turned (method s) good (back_ends_of s) counted v inner within some (row w.brackets) (vec_items w.levels) swept)

  -- the same, by the counts that the program has
  pub turned_by : (m links u : ℕ) → m ≡ size_of s → links ≡ length (links_of s) → u ≡ par_of (visits_of s) v → Turned s w v m links u
  turned_by m links u e f g =
      subst (λ (i : ℕ). Turned s w v i links u) (sym e) (subst (λ (i : ℕ). Turned s w v n i u) (sym f) (subst (λ (i : ℕ). Turned s w v n many i) (sym g) (fits, name_is, swept_after)))
