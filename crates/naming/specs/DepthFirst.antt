-- A depth-first tree of all steps, by numbers, and what the method reads off it.
use Rattle.std.specs.Prelude.{◌≡◌, ℕ, zero, suc, ◌<◌, min, max, Bool, true, false, cond, not, ◌&&◌, ◌||◌, ◌⊎◌, List, [], ◌∷◌, length, ◌==◌, nat_lt}
use Rattle.model.specs.Meaning.{Graph, tail_of, head_of, EndsBelow}
use Rattle.model.specs.Walks.{Links, closed}
use Rattle.naming.specs.Built.{sub_at}
use Rattle.naming.specs.Searched.{Searched}
use Rattle.naming.specs.Classes.{Numbered}

-- v is t or below t
abbrev pub Below : (ℕ → ℕ) → ℕ → ℕ → Type 0
Below parent t v = sub_at parent (suc v) t v ≡ true

-- number and step tell the number of each step and the step of each number, link k is the tree link above k
pub record DepthFirst (G : Links) (n : ℕ) (number step parent link : ℕ → ℕ) : Type 0 where
  pub number_below : (v : ℕ) → v < n → number v < n
  pub step_below : (k : ℕ) → k < n → step k < n
  pub number_step : (k : ℕ) → k < n → number (step k) ≡ k
  pub step_number : (v : ℕ) → v < n → step (number v) ≡ v
  pub up : (k : ℕ) → 0 < k → k < n → parent k < k
  pub is_link : (k : ℕ) → 0 < k → k < n → link k < length G
  pub joins :
      (k : ℕ) → 0 < k → k < n →
      ((tail_of G (link k) ≡ step (parent k)) × (head_of G (link k) ≡ step k)) ⊎ ((tail_of G (link k) ≡ step k) × (head_of G (link k) ≡ step (parent k)))
  -- every link joins a number with one of its ancestors or itself
  pub near :
      (e : ℕ) → e < length G →
      Below parent (number (tail_of G e)) (number (head_of G e)) ⊎ Below parent (number (head_of G e)) (number (tail_of G e))

-- link e is the tree link above one of the numbers below k
unfoldable pub of_tree : (ℕ → ℕ) → ℕ → ℕ → Bool
of_tree link zero e = false
of_tree link (suc k) e = (nat_lt 0 k && link k == e) || of_tree link k e

module _ (G : Links) (n : ℕ) (number link : ℕ → ℕ) where
  -- a back link goes from its end of larger number to that of smaller number
  abbrev pub from_end : ℕ → ℕ
  from_end e = max (number (tail_of G e)) (number (head_of G e))

  abbrev pub to_end : ℕ → ℕ
  to_end e = min (number (tail_of G e)) (number (head_of G e))

  -- link e is a back link: not of the tree, and with two ends
  abbrev pub is_back : ℕ → Bool
  is_back e = not (of_tree link n e) && not (number (tail_of G e) == number (head_of G e))

  -- the back links from number k among the first m links, the last one first
  unfoldable pub back_links : ℕ → ℕ → List ℕ
  back_links zero k = []
  back_links (suc e) k = cond (is_back e && from_end e == k) (e ∷ back_links e k) (back_links e k)

-- the search that a tree of n numbers stands for
abbrev pub searched : Links → ℕ → (ℕ → ℕ) → (ℕ → ℕ) → (ℕ → ℕ) → Searched
searched G n number parent link =
    record {
      size = n;
      parent = parent;
      many = length G;
      links = back_links G n number link (length G);
      from = from_end G n number link;
      to = to_end G n number link;
    }

-- Theorem: a depth-first tree of all steps of the closed plan is a search as the method asks.
abbrev pub DepthFirstNumbered : Type 0
DepthFirstNumbered =
    (g : Graph) → EndsBelow g.steps (closed g) → (number step parent link : ℕ → ℕ) → DepthFirst (closed g) g.steps number step parent link →
    Numbered g (searched (closed g) g.steps number parent link) number step link
