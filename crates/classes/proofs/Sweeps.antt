-- The brackets of a sweep stay among those that are there.
use Rattle.std.proofs.Common.{◌≡◌, ℕ, ◌+◌, ◌<◌, List, [], ◌∷◌, IfSome, Some, None, Option, sym, subst, arith}
use Rattle.std.proofs.ByRecursion.{All-weaker}
use Rattle.std.proofs.lemmas.Option.{none-some, same_Some}
use Rattle.std.specs.List.{AllByRecursion}
use Rattle.std.specs.Option.{option_map}
use Rattle.lists.specs.Many.{row, Reads}
use Rattle.lists.specs.Rows.{top}
use Rattle.brackets.specs.declared.holding.Bracket.{Bracket}
use Rattle.brackets.specs.declared.holding.Name.{Name}
use Rattle.brackets.specs.declared.levels.Level.{Level}
use Rattle.brackets.specs.Turned.{rows_capped, list_after, top_after, rows_after}
use Rattle.brackets.proofs.Live.{read_all, all_capped, all_left, all_passed}
use Rattle.classes.specs.Held.{Held}

-- of fewer items
pub held_wider : (m n : ℕ) (t : List (List Bracket)) → m < n + 1 → Held m t → Held n t
held_wider m n t le h j = All-weaker (λ b. b.item < m) (λ b. b.item < n) (λ b l. omega arith) (row t j) (h j)

-- the top of a list that holds such brackets
top_held : (n : ℕ) (bs : List Bracket) (r : Option Name) → AllByRecursion (λ b. b.item < n) bs → option_map (λ m. m.top) r ≡ option_map (λ b. b.item) (top bs) → IfSome r (λ m. m.top < n)
top_held n bs None a e = tt
top_held n [] (Some m) a e = absurd (none-some m.top (sym e))
top_held n (b ∷ bs) (Some m) a e = subst (λ (i : ℕ). i < n) (sym (same_Some m.top b.item e)) a.0

module _ (n size many : ℕ) (levels : List Level) (t : List (List Bracket)) (v : ℕ) (cap : many + v < n) (h : Held n t) where
  capped : (k : ℕ) → AllByRecursion (λ b. b.item < n) (rows_capped size many levels (row t) v k)
  capped = all_capped (λ b. b.item < n) size many levels (row t) v cap h

  -- the name that is told, and the lists that are left
  pub named_held : (r : Option Name) → option_map (λ m. m.top) r ≡ top_after size many levels (row t) v → IfSome r (λ m. m.top < n)
  named_held r e = top_held n (list_after size many levels (row t) v) r (all_left (λ b. b.item < n) (rows_capped size many levels (row t) v) v (size + v) capped) e

  pub turned_held : (parent : ℕ) (s : List (List Bracket)) → Reads s (rows_after size many levels (row t) v parent) → Held n s
  turned_held parent s r =
      read_all (AllByRecursion (λ b. b.item < n)) s (rows_after size many levels (row t) v parent) tt r
      (all_passed (λ b. b.item < n) (rows_capped size many levels (row t) v) v (size + v) parent capped)
