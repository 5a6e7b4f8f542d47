-- A tree over the numbers 0 .. size - 1, items (back links and caps) that reach from a number, src, to one above it, dst, and for each number the list of
-- the items that pass the link above it.
use Rattle.std.specs.Prelude.{◌≡◌, ℕ, ◌+◌, ◌<◌, ◌≤◌, min, Bool, true, false, not, ◌||◌, ◌↔◌, List, [], ◌∷◌, ◌++◌, length, filter, ◌==◌, nat_eq, nat_lt, slice_index_or}
use Rattle.naming.specs.Words.{Elem, Once, flat, low, second}

-- The tree, its items and its lists. Items are of any type.
pub record Shape (X : Type 0) : Type 0 where
  pub size : ℕ
  pub parent : ℕ → ℕ
  -- sub k v: v is in the subtree of k
  pub sub : ℕ → ℕ → Bool
  -- the children of k, in the order in which their lists are joined
  pub kids : ℕ → List ℕ
  pub src : X → ℕ
  pub dst : X → ℕ
  pub cap : X → Bool
  -- the items with src k, in any order
  pub own : ℕ → List X
  -- the lowest number that the own back links of k reach, and that the back links of its subtree reach; size if there is none
  pub hi0 : ℕ → ℕ
  pub hi : ℕ → ℕ
  -- the items that pass the link above k
  pub list : ℕ → List X

-- The second lowest number that the subtrees of the children of k reach, equal ones counted apart.
abbrev pub hi2 : {X : Type 0} → Shape X → ℕ → ℕ
hi2 S k = second S.size S.hi (S.kids k)

-- Parents have lower numbers, and subtrees and children are as the parents say.
pub record Treelike {X : Type 0} (S : Shape X) : Type 0 where
  pub up : (k : ℕ) → 0 < k → k < S.size → S.parent k < k
  pub sub_zero : (t : ℕ) → S.sub t 0 ≡ (0 == t)
  pub sub_more : (t v : ℕ) → 0 < v → v < S.size → S.sub t v ≡ (v == t || S.sub t (S.parent v))
  pub kid : (k c : ℕ) → k < S.size → Elem c (S.kids k) → (0 < c) × (c < S.size) × (S.parent c ≡ k)
  pub kid_of : (c : ℕ) → 0 < c → c < S.size → Elem c (S.kids (S.parent c))
  pub kids_once : (k : ℕ) → k < S.size → Once (S.kids k)

-- The lists are made as the method says: own items on top of the children's lists, without the items that end at k; a cap to hi2 where it is below hi0 and below k.
pub record ByMethod {X : Type 0} (S : Shape X) : Type 0 where
  pub tree : Treelike S
  pub own_src : (k : ℕ) (x : X) → k < S.size → Elem x (S.own k) → S.src x ≡ k
  pub own_once : (k : ℕ) → k < S.size → Once (S.own k)
  -- a back link goes to a number above
  pub link_up : (k : ℕ) (x : X) → k < S.size → Elem x (S.own k) → S.cap x ≡ false → (S.sub (S.dst x) k ≡ true) × (S.dst x < k)
  pub hi0_low : (k : ℕ) (x : X) → k < S.size → Elem x (S.own k) → S.cap x ≡ false → S.hi0 k ≤ S.dst x
  pub hi0_some : (k : ℕ) → k < S.size → S.hi0 k < S.size → (x : X) × Elem x (S.own k) × (S.cap x ≡ false) × (S.dst x ≡ S.hi0 k)
  pub hi_is : (k : ℕ) → k < S.size → S.hi k ≡ min (S.hi0 k) (low S.size S.hi (S.kids k))
  pub cap_is : (k : ℕ) (x : X) → k < S.size → Elem x (S.own k) → S.cap x ≡ true → (hi2 S k < k) × (S.dst x ≡ hi2 S k)
  pub cap_some : (k : ℕ) → k < S.size → hi2 S k < S.hi0 k → hi2 S k < k → (x : X) × Elem x (S.own k) × (S.dst x ≡ hi2 S k)
  pub list_is : (k : ℕ) → k < S.size → S.list k ≡ S.own k ++ filter (λ x. not (S.dst x == k)) (flat S.list (S.kids k))

-- x is an item that passes the link above k
pub record Over {X : Type 0} (S : Shape X) (k : ℕ) (x : X) : Type 0 where
  pub within : S.src x < S.size
  pub item : Elem x (S.own (S.src x))
  pub below : S.sub k (S.src x) ≡ true
  pub above : S.dst x < k

-- x is a back link that does
abbrev pub Bracket : {X : Type 0} → Shape X → ℕ → X → Type 0
Bracket S k x = Over S k x × (S.cap x ≡ false)

-- The same back links pass the links above k and above j.
abbrev pub SameBracketsAt : {X : Type 0} → Shape X → ℕ → ℕ → Type 0
SameBracketsAt {X} S k j = (x : X) → Bracket S k x ↔ Bracket S j x

-- the name of a number: the top of its list and the length; d is the top of no list
abbrev pub top_of : {X : Type 0} → Shape X → X → ℕ → X
top_of S d k = slice_index_or (S.list k) 0 d

abbrev pub SameName : {X : Type 0} → Shape X → X → ℕ → ℕ → Type 0
SameName S d k j = (top_of S d k ≡ top_of S d j) × (length (S.list k) ≡ length (S.list j))

-- What the lists are, and that names tell brackets.
pub record Named (X : Type 0) (S : Shape X) (d : X) : Type 0 where
  -- the list of k has the items that pass the link above k, each once
  pub holds : (k : ℕ) (x : X) → k < S.size → Elem x (S.list k) ↔ Over S k x
  pub once : (k : ℕ) → k < S.size → Once (S.list k)
  -- the top comes from below j: then the list is that of j without the items that end on the way
  pub front :
      (k j : ℕ) (x : X) (xs : List X) → k < S.size → j < S.size → S.sub k j ≡ true → S.list k ≡ x ∷ xs → S.sub j (S.src x) ≡ true →
      S.list k ≡ filter (λ y. nat_lt (S.dst y) k) (S.list j)
  -- equal names, equal lists, equal brackets
  pub told : (k j : ℕ) → k < S.size → j < S.size → SameName S d k j → S.list k ≡ S.list j
  pub alike : (k j : ℕ) → k < S.size → j < S.size → SameBracketsAt S k j ↔ (S.list k ≡ S.list j)
  pub names : (k j : ℕ) → k < S.size → j < S.size → SameName S d k j ↔ SameBracketsAt S k j
  -- the name of k is that of a back link b just if b is the one bracket of k
  pub lone : (k : ℕ) (b : X) → k < S.size → ((top_of S d k ≡ b) × (length (S.list k) ≡ 1)) ↔ ((x : X) → Bracket S k x ↔ (x ≡ b))

-- Theorem: so it is with every shape by the method.
abbrev pub NamesTell : Type 0
NamesTell = (S : Shape ℕ) (d : ℕ) → ByMethod S → Named ℕ S d

-- xs is the list of k, with items in it that have ended
abbrev pub Carries : {X : Type 0} → Shape X → ℕ → List X → Type 0
Carries S k xs = filter (λ x. nat_lt (S.dst x) k) xs ≡ S.list k

-- the items that end at k, out of the own items of the numbers js
abbrev pub ending_at : {X : Type 0} → Shape X → ℕ → List ℕ → List X
ending_at S k js = filter (λ x. nat_eq (S.dst x) k) (flat S.own js)

-- How to go on with lists that keep items which have ended.
pub record Carried (X : Type 0) (S : Shape X) (d : X) : Type 0 where
  -- what the children carry, joined, is carried by k: nothing has to be taken out
  pub join : (k : ℕ) (held : ℕ → List X) → k < S.size → ((c : ℕ) → Elem c (S.kids k) → Carries S c (held c)) → Carries S k (S.own k ++ flat held (S.kids k))
  -- an ended item at the top may go, and a top that has not ended is the top of the list
  pub pop : (k : ℕ) (x : X) (xs : List X) → Carries S k (x ∷ xs) → k ≤ S.dst x → Carries S k xs
  pub top : (k : ℕ) (x : X) (xs : List X) → Carries S k (x ∷ xs) → S.dst x < k → top_of S d k ≡ x
  pub bare : (k : ℕ) → Carries S k [] → S.list k ≡ []
  -- the length, from the lengths of the children's lists and the number of items that end at k; js are the numbers above k
  pub count :
      (k : ℕ) (js : List ℕ) → k < S.size → Once js → ((j : ℕ) → Elem j js ↔ ((k < j) × (j < S.size))) →
      length (S.list k) + length (ending_at S k js) ≡ length (S.own k) + length (flat S.list (S.kids k))

-- Theorem: so it is with every shape by the method.
abbrev pub CarriedTell : Type 0
CarriedTell = (S : Shape ℕ) (d : ℕ) → ByMethod S → Carried ℕ S d
