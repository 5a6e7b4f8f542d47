-- What the lists and the levels hold while the numbers are handled from the last to the first.
use Rattle.std.specs.Prelude.{◌≡◌, ℕ, ◌+◌, ◌-◌, ◌<◌, List, [], length}
use Rattle.std.specs.List.{AllByRecursion}
use Rattle.model.specs.Walks.{Links}
use Rattle.naming.specs.Words.{low}
use Rattle.naming.specs.Names.{ending_at}
use Rattle.naming.specs.Built.{shape_of}
use Rattle.naming.specs.Searched.{Searched, low_own, base_of}
use Rattle.naming.specs.Turns.{later, State, Sofar}
use Rattle.naming.specs.DepthFirst.{to_end, back_links}
use Rattle.naming.specs.Ended.{back_ends, cap_ends}
use Rattle.brackets.specs.declared.levels.Level.{Level}
use Rattle.brackets.specs.declared.holding.Bracket.{Bracket}
use Rattle.brackets.specs.Levels.{level}
use Rattle.brackets.specs.Live.{items}

-- the first m links are put to the numbers that they start from
pub record Begun (G : Links) (n : ℕ) (number link : ℕ → ℕ) (m : ℕ) (rows : ℕ → List Bracket) (levels : List Level) : Type 0 where
  pub long : length levels ≡ n
  pub right : (j : ℕ) → AllByRecursion (λ b. (b.item < m) × (b.to ≡ to_end G n number link b.item)) (rows j)
  pub none : (p : ℕ) → p < n → rows p ≡ []
  pub own : (p : ℕ) → p < n → items (rows (n + p)) ≡ back_links G n number link m p
  -- hi0 and the count of ends, by their definitions; nothing is known of children
  pub known :
      (p : ℕ) → p < n →
      level levels p ≡ record { hi0 = low n (to_end G n number link) (back_links G n number link m p); hi1 = n; hi2 = n; len = 0; ends = back_ends G n number link m p }

-- What the program holds for each number, as the turns of the method have it when the numbers from k on are handled. They count the ends of these numbers' own items alone, by the definition: the program's count has the back links to come as well.
abbrev pub state : Searched → ℕ → (ℕ → List Bracket) → List Level → State ℕ
state P k rows levels =
    record {
      items = λ p. items (rows p);
      len = λ p. (level levels p).len;
      lo = λ p. (level levels p).hi1;
      lo2 = λ p. (level levels p).hi2;
      ends = λ p. length (ending_at (shape_of (base_of P)) p (later (base_of P) k));
    }

-- The numbers from k on are handled; `back` tells how many back links end at each number.
pub record Swept (P : Searched) (back : ℕ → ℕ) (k : ℕ) (rows : ℕ → List Bracket) (levels : List Level) : Type 0 where
  pub long : length levels ≡ P.size
  -- each bracket knows where it ends
  pub right : (j : ℕ) → AllByRecursion (λ b. b.to ≡ (base_of P).dst b.item) (rows j)
  -- the own back links of the numbers to come, and what their children so far brought
  pub own : (p : ℕ) → p < k → items (rows (P.size + p)) ≡ P.links p
  pub sofar : Sofar (base_of P) k (state P k rows levels)
  -- hi0 by its definition, and all that ends at a number, caps as far as they are made
  pub hi0 : (p : ℕ) → p < P.size → (level levels p).hi0 ≡ low_own P p
  pub ends : (p : ℕ) → p < P.size → (level levels p).ends ≡ back p + cap_ends P (P.size - k) k p
