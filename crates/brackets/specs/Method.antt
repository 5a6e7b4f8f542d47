-- A search of the closed plan as the method takes it.
use Rattle.std.specs.Prelude.{◌≡◌, ℕ, ◌+◌, ◌^◌, ◌<◌, ◌≤◌, ◌↔◌, List, map, length, Some, None, vec_items, Option, slice_index_or}
use Rattle.std.specs.Option.{unwrap_or}
use Rattle.model.specs.Meaning.{EndsBelow, tail_of, head_of, pair_of}
use Rattle.model.specs.Walks.{Links}
use Rattle.search.specs.Spans.{par_of, step_of, link_of}
use Rattle.brackets.specs.declared.spanning.Spanning.{Spanning}
use Rattle.search.specs.declared.trees.Visit.{Visit}
use Rattle.naming.specs.Searched.{Searched}
use Rattle.naming.specs.Classes.{length_at}
use Rattle.naming.specs.DepthFirst.{DepthFirst, searched}
use Rattle.naming.specs.Ended.{back_ends}

module _ (s : Spanning) where
  abbrev pub links_of : Links
  links_of = map pair_of (vec_items s.links)

  abbrev pub visits_of : List Visit
  visits_of = vec_items s.tree.visits

  abbrev pub numbers_of : List (Option ℕ)
  numbers_of = vec_items s.tree.number

  -- how many numbers there are, and the number of each step
  abbrev pub size_of : ℕ
  size_of = length visits_of

  abbrev pub number_of : ℕ → ℕ
  number_of v = unwrap_or (slice_index_or numbers_of v None) 0

  -- the search, by parents, tree links and back links
  abbrev pub method : Searched
  method = searched links_of size_of number_of (par_of visits_of) (link_of visits_of)

  -- how many back links end at a number
  abbrev pub back_ends_of : ℕ → ℕ
  back_ends_of = back_ends links_of size_of number_of (link_of visits_of) (length links_of)

  -- The steps and links that are named are there, the search came to both ends of a link or to none, and links and caps have numbers of 16 bits. The tree need not have every step.
  pub record Bounded : Type 0 where
    pub ends : EndsBelow (length numbers_of) links_of
    pub linked : (k : ℕ) → 0 < k → k < size_of → link_of visits_of k < length links_of
    pub both :
        (e : ℕ) → e < length links_of →
        (slice_index_or numbers_of (tail_of links_of e) None ≡ None) ↔ (slice_index_or numbers_of (head_of links_of e) None ≡ None)
    pub few : length links_of + size_of < 2 ^ 16

  -- The tree has every step, and every tree link a bracket; and all is within the bounds of a plan.
  pub record Whole : Type 0 where
    pub within : EndsBelow size_of links_of
    pub tree : DepthFirst links_of size_of number_of (step_of visits_of) (par_of visits_of) (link_of visits_of)
    pub long : length numbers_of ≡ size_of
    pub numbered : (v : ℕ) → v < size_of → slice_index_or numbers_of v None ≡ Some (number_of v)
    pub bracketed : (k : ℕ) → 0 < k → k < size_of → 0 < length_at method k
    pub some : 0 < size_of
    pub few_numbers : size_of ≤ 1024
    pub few_links : length links_of ≤ 2049
