-- The shape that a program computes: from the parents, the own items and the lowest own dst of each number.
use Rattle.std.specs.Prelude.{◌≡◌, ℕ, zero, suc, ◌-◌, ◌<◌, ◌≤◌, min, Bool, true, false, cond, not, ◌&&◌, ◌||◌, List, [], ◌∷◌, ◌++◌, filter, ◌==◌, nat_lt}
use Rattle.naming.specs.Words.{Elem, Once, flat, low}
use Rattle.naming.specs.Names.{Shape, ByMethod, hi2}

-- What is given.
pub record Base (X : Type 0) : Type 0 where
  pub size : ℕ
  pub parent : ℕ → ℕ
  pub src : X → ℕ
  pub dst : X → ℕ
  pub cap : X → Bool
  pub own : ℕ → List X
  pub hi0 : ℕ → ℕ

-- whether v is below t, going up m times at most
unfoldable pub sub_at : (ℕ → ℕ) → ℕ → ℕ → ℕ → Bool
sub_at parent zero t v = false
sub_at parent (suc m) t v = v == t || (nat_lt 0 v && sub_at parent m t (parent v))

-- the children of p among the m numbers from k on, rising
unfoldable pub kids_from : (ℕ → ℕ) → ℕ → ℕ → ℕ → List ℕ
kids_from parent zero k p = []
kids_from parent (suc m) k p = cond (parent k == p) (k ∷ kids_from parent m (suc k) p) (kids_from parent m (suc k) p)

abbrev pub kids_all : ℕ → (ℕ → ℕ) → ℕ → List ℕ
kids_all n parent p = kids_from parent (n - 1) 1 p

abbrev pub kids_of : {X : Type 0} → Base X → ℕ → List ℕ
kids_of B p = kids_all B.size B.parent p

-- the lowest number that the back links of the subtree of k reach, m levels deep
unfoldable pub hi_at : ℕ → (ℕ → ℕ) → (ℕ → ℕ) → ℕ → ℕ → ℕ
hi_at n parent hi0 zero k = n
hi_at n parent hi0 (suc m) k = min (hi0 k) (low n (hi_at n parent hi0 m) (kids_all n parent k))

abbrev pub hi_of : {X : Type 0} → Base X → ℕ → ℕ
hi_of B = hi_at B.size B.parent B.hi0 B.size

-- the list of k, m levels deep
unfoldable pub list_at : {X : Type 0} → Base X → ℕ → ℕ → List X
list_at B zero k = []
list_at B (suc m) k = B.own k ++ filter (λ x. not (B.dst x == k)) (flat (list_at B m) (kids_of B k))

abbrev pub shape_of : {X : Type 0} → Base X → Shape X
shape_of B =
    record {
      size = B.size;
      parent = B.parent;
      sub = λ t v. sub_at B.parent (suc v) t v;
      kids = kids_of B;
      src = B.src;
      dst = B.dst;
      cap = B.cap;
      own = B.own;
      hi0 = B.hi0;
      hi = hi_of B;
      list = list_at B B.size;
    }

-- What is given fits together.
pub record Ready {X : Type 0} (B : Base X) : Type 0 where
  pub up : (k : ℕ) → 0 < k → k < B.size → B.parent k < k
  pub own_src : (k : ℕ) (x : X) → k < B.size → Elem x (B.own k) → B.src x ≡ k
  pub own_once : (k : ℕ) → k < B.size → Once (B.own k)
  pub link_up : (k : ℕ) (x : X) → k < B.size → Elem x (B.own k) → B.cap x ≡ false → ((shape_of B).sub (B.dst x) k ≡ true) × (B.dst x < k)
  pub hi0_low : (k : ℕ) (x : X) → k < B.size → Elem x (B.own k) → B.cap x ≡ false → B.hi0 k ≤ B.dst x
  pub hi0_some : (k : ℕ) → k < B.size → B.hi0 k < B.size → (x : X) × Elem x (B.own k) × (B.cap x ≡ false) × (B.dst x ≡ B.hi0 k)
  pub cap_is : (k : ℕ) (x : X) → k < B.size → Elem x (B.own k) → B.cap x ≡ true → (hi2 (shape_of B) k < k) × (B.dst x ≡ hi2 (shape_of B) k)
  pub cap_some : (k : ℕ) → k < B.size → hi2 (shape_of B) k < B.hi0 k → hi2 (shape_of B) k < k → (x : X) × Elem x (B.own k) × (B.dst x ≡ hi2 (shape_of B) k)

-- The shape is by the method.
pub record Built (X : Type 0) (B : Base X) : Type 0 where
  pub by_method : ByMethod (shape_of B)
  -- when the numbers from k on are done, all children of a number p ≥ k - 1 are
  pub done : (k p : ℕ) → 0 < k → k ≤ B.size → k ≤ suc p → kids_from B.parent (B.size - k) k p ≡ kids_of B p

-- Theorem: so it is whenever what is given fits together.
abbrev pub BuildStands : Type 0
BuildStands = (B : Base ℕ) → Ready B → Built ℕ B
