-- One link of the closed plan looked at, as the loop over the links does it.
use Rattle.std.proofs.Common.{◌≡◌, ℕ, suc, ◌+◌, ◌^◌, ◌<◌, Bool, true, false, not, ◌&&◌, eqb, ◌≢◌, List, sym, ap, ◌∙◌, subst, add-one, arith}
use Rattle.std.proofs.lemmas.Bool.{and_right, eq-eqb, ne_eqb}
use Rattle.model.specs.Meaning.{tail_of, head_of}
use Rattle.naming.specs.DepthFirst.{of_tree, from_end, to_end, is_back}
use Rattle.search.specs.Spans.{link_of}
use Rattle.brackets.specs.declared.levels.Level.{Level}
use Rattle.brackets.specs.declared.spanning.Spanning.{Spanning}
use Rattle.brackets.specs.declared.holding.Bracket.{Bracket}
use Rattle.brackets.specs.Levels.{level}
use Rattle.brackets.specs.Live.{with_start, started}
use Rattle.brackets.specs.Method.{links_of, visits_of, size_of, number_of}
use Rattle.brackets.specs.Swept.{Begun}
use Rattle.brackets.proofs.Begun.{begun_skip, begun_more}
use Rattle.brackets.proofs.Seen.{how_many_most}

module _ (s : Spanning) (l : ℕ) where
  abbrev tail_number : ℕ
  tail_number = number_of s (tail_of (links_of s) l)

  abbrev head_number : ℕ
  head_number = number_of s (head_of (links_of s) l)

  abbrev in_tree : Bool
  in_tree = of_tree (link_of (visits_of s)) (size_of s) l

  abbrev At : ℕ → (ℕ → List Bracket) → List Level → Type 0
  At = Begun (links_of s) (size_of s) (number_of s) (link_of (visits_of s))

  module _ (rows : ℕ → List Bracket) (levels : List Level) (B : At l rows levels) where
    no_back : is_back (links_of s) (size_of s) (number_of s) (link_of (visits_of s)) l ≡ false → At (l + 1) rows levels
    no_back t = subst (λ (i : ℕ). At i rows levels) (sym (add-one l)) (begun_skip (links_of s) (size_of s) (number_of s) (link_of (visits_of s)) l rows levels B t)

    pub tree_link_skipped : in_tree ≡ true → At (l + 1) rows levels
    tree_link_skipped t = no_back (ap (λ (b : Bool). not b && not (eqb tail_number head_number)) t)

    pub loop_skipped : tail_number ≡ head_number → At (l + 1) rows levels
    loop_skipped e = no_back (and_right (not in_tree) (not (eqb tail_number head_number)) (ap not (eq-eqb tail_number head_number e)))

    pub back_link_put : (from to : ℕ) → from ≡ from_end (links_of s) (size_of s) (number_of s) (link_of (visits_of s)) l → to ≡ to_end (links_of s) (size_of s) (number_of s) (link_of (visits_of s)) l → from < size_of s →
        in_tree ≡ false → (tail_number ≡ head_number → ⊥) → At (l + 1) (with_start (size_of s) rows l from to) (started levels from to)
    back_link_put from to f t lt outside apart =
        subst (λ (i : ℕ). At i (with_start (size_of s) rows l from to) (started levels from to)) (sym (add-one l))
        (subst (λ (i : ℕ). At (suc l) (with_start (size_of s) rows l i to) (started levels i to)) (sym f)
        (subst (λ (i : ℕ). At (suc l) (with_start (size_of s) rows l (from_end (links_of s) (size_of s) (number_of s) (link_of (visits_of s)) l) i) (started levels (from_end (links_of s) (size_of s) (number_of s) (link_of (visits_of s)) l) i)) (sym t)
        (begun_more (links_of s) (size_of s) (number_of s) (link_of (visits_of s)) l rows levels B
        (ap (λ (b : Bool). not b && not (eqb tail_number head_number)) outside ∙ ap not (ne_eqb tail_number head_number apart))
        (omega arith)
        (let a : tail_number ≢ head_number = apart in omega arith))))

    pub few_ends : l < 2 ^ 16 → (to : ℕ) → to < size_of s → (level levels to).ends + 1 < 2 ^ 32
    few_ends few to lt =
        let a = ap (λ (x : Level). x.ends) (B.known to lt) in
        let b = how_many_most (λ e. is_back (links_of s) (size_of s) (number_of s) (link_of (visits_of s)) e && eqb (to_end (links_of s) (size_of s) (number_of s) (link_of (visits_of s)) e) to) l in
        omega arith
