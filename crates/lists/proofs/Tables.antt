-- What a push, a join and a pop do to many lists.
use Rattle.std.proofs.Common.{◌≡◌, ℕ, zero, suc, ◌+◌, ◌^◌, ◌<◌, ◌≤◌, ◌≢◌, List, [], ◌∷◌, ◌++◌, length, get_or, set, replicate, Some, Option, sym, refl, ap, ◌∙◌, inl, inr, arith, length-set}
use Rattle.std.proofs.lemmas.List.{get_or-set_other, get_or-replicate, length-replicate, get_or_default, get_or-map, length-map, same_lists}
use Rattle.std.proofs.lemmas.List.Sums.{sum_by-set, sum_by-cons, get_or-le-sum_by}
use Rattle.std.proofs.lemmas.Grind.{get_or-set_at}
use Rattle.std.proofs.lemmas.Option.{slice_get_read}
use Rattle.std.proofs.lemmas.Bool.{cases_eq}
use Rattle.lists.specs.declared.cells.Cell.{Cell}
use Rattle.lists.specs.declared.cells.Chain.{Chain}
use Rattle.lists.specs.Holds.{Walk, Holds, Held, Apart, nil}
use Rattle.lists.specs.Rows.{Rows, top, rest, total}
use Rattle.lists.specs.Many.{row}
use Rattle.lists.specs.Table.{cell_at, items_from, items_of, lists_of, IsTable}
use Rattle.lists.proofs.Chains.{nil_holds, nil_apart, held_last, front_in}

apart_sym : (a b : Chain) → Apart a b → Apart b a
apart_sym a b h k e f = h k f e

abbrev size : Chain → ℕ
size l = l.len

-- what a list holds is what is read off its cells
items_walk : {T : Type 0} (cs : List (Cell T)) (f b : Option ℕ) (xs : List T) → Walk cs f b xs → items_from cs (cell_at cs f) (length xs) ≡ xs
items_walk cs f b [] w = refl
items_walk cs f b (x ∷ xs) w =
    let c : cell_at cs f ≡ Some (record { item = x; next = w.1 }) = ap (cell_at cs) w.2 ∙ slice_get_read cs (length cs) w.0 _ refl w.3.within w.3.reads in
    rw c (ap (λ (ys : List _). x ∷ ys) (items_walk cs w.1 b xs w.5))

holds_read : {T : Type 0} (cs : List (Cell T)) (l : Chain) (xs : List T) → Holds cs l xs → items_of cs l ≡ xs
holds_read cs l xs h = ap (items_from cs (cell_at cs l.front)) h.long ∙ items_walk cs l.front l.back xs h.walk

-- the lists hold the items of t
pub record Shows {T : Type 0} (cs : List (Cell T)) (ls : List Chain) (t : List (List T)) : Type 0 where
  pub held : Rows cs ls (row t)
  pub many : length ls ≡ length t

pub shows : {T : Type 0} {cs : List (Cell T)} {ls : List Chain} (t : List (List T)) → IsTable cs ls → lists_of cs ls ≡ t → Shows cs ls t
shows {cs = cs} {ls = ls} t w e =
    record { held = rw e at w.held; many = sym (length-map ls (items_of cs)) ∙ ap length e }

pub shown : {T : Type 0} {cs : List (Cell T)} {ls : List Chain} {t : List (List T)} → Shows cs ls t → lists_of cs ls ≡ t
shown {cs = cs} {ls = ls} {t = t} s =
    same_lists (lists_of cs ls) t (length-map ls (items_of cs) ∙ s.many) (λ k d lt.
    let kl : k < length ls = omega (arith, length-map ls (items_of cs)) in
    get_or-map (items_of cs) ls k nil d kl ∙ holds_read cs (get_or ls k nil) (row t k) (s.held.each k kl) ∙ get_or_default t k [] d (omega (arith, s.many)))

pub shown_table : {T : Type 0} {cs : List (Cell T)} {ls : List Chain} {t : List (List T)} → Shows cs ls t → total ls ≤ length cs → length cs < 2 ^ 32 → IsTable cs ls
shown_table s counted few = record { held = rw (shown s) s.held; counted = counted; few = few }

-- n copies of the empty list
module _ (ls : List Chain) (n : ℕ) (l : Chain) (copies : ls ≡ replicate n l) (empty : l ≡ nil) where
  pub new_shows : {T : Type 0} (cs : List (Cell T)) → Shows {T = T} cs ls (replicate n [])
  new_shows {T = T} cs =
      let many = ap length copies ∙ length-replicate n l in
      let at : (j : ℕ) → j < length ls → get_or ls j nil ≡ nil = λ j lt. rw (copies, empty) (get_or-replicate n j nil nil (omega arith)) in
      record {
        held = record {
          each = λ j lt. rw (at j lt, get_or-replicate {A = List T} n j [] [] (omega arith)) (nil_holds cs);
          apart = λ i j li lj ne. rw (at i li) (nil_apart (get_or ls j nil));
        };
        many = many ∙ sym (length-replicate n []);
      }

  pub new_total : total ls ≡ 0
  new_total = rw (copies, empty) (none n)
    where
      none : (n : ℕ) → total (replicate n nil) ≡ 0
      none zero = refl
      none (suc n) = let r = none n in omega (arith, sum_by-cons size nil (replicate n nil))

module _ {T : Type 0} {cs : List (Cell T)} {ls : List Chain} {t : List (List T)} (s : Shows cs ls t) where
  pub frame_shows : (cs' : List (Cell T)) → ((k : Chain) (xs : List T) → Holds cs k xs → Holds cs' k xs) → Shows cs' ls t
  frame_shows cs' frame = record { held = record { each = λ j lt. frame _ _ (s.held.each j lt); apart = s.held.apart }; many = s.many }

  -- one list is changed, and the others hold what they held
  set_shows : (cs' : List (Cell T)) (j : ℕ) (m : Chain) (ys : List T) → j < length t → ((k : ℕ) → k < length ls → k ≢ j → Holds cs' (get_or ls k nil) (row t k)) → Holds cs' m ys → ((k : ℕ) → k < length ls → k ≢ j → Apart m (get_or ls k nil)) → Shows cs' (set ls j m) (set t j ys)
  set_shows cs' j m ys lt others new away =
      record { held = record { each = each'; apart = apart' }; many = length-set ls j m ∙ s.many ∙ sym (length-set t j ys) }
    where
      lj : j < length ls
      lj = omega (arith, s.many)

      each' : (k : ℕ) → k < length (set ls j m) → Holds cs' (get_or (set ls j m) k nil) (row (set t j ys) k)
      each' k kl = elim (cases_eq k j) [
        | inl e ↦ rw (get_or-set_at ls j k m nil e lj, get_or-set_at t j k ys [] e lt) new
        | inr n ↦ rw (get_or-set_other ls j k m nil n, get_or-set_other t j k ys [] n) (others k (omega (arith, length-set ls j m)) n)
      ]

      apart' : (i k : ℕ) → i < length (set ls j m) → k < length (set ls j m) → i ≢ k → Apart (get_or (set ls j m) i nil) (get_or (set ls j m) k nil)
      apart' i k li lk ne =
          let il : i < length ls = omega (arith, length-set ls j m) in
          let kl : k < length ls = omega (arith, length-set ls j m) in
          elim (cases_eq i j) [
            | inl p ↦ elim (cases_eq k j) [
              | inl q ↦ absurd (ne (p ∙ sym q))
              | inr q ↦ rw (get_or-set_at ls j i m nil p lj, get_or-set_other ls j k m nil q) (away k kl q)
            ]
            | inr p ↦ elim (cases_eq k j) [
              | inl q ↦ rw (get_or-set_at ls j k m nil q lj, get_or-set_other ls j i m nil p) (apart_sym m (get_or ls i nil) (away i il p))
              | inr q ↦ rw (get_or-set_other ls j i m nil p, get_or-set_other ls j k m nil q) (s.held.apart i k il kl ne)
            ]
          ]

  -- the list l that stands at j
  module _ (j : ℕ) (l : Chain) (lt : j < length t) (e : l ≡ get_or ls j l) where
    is : l ≡ get_or ls j nil
    is = e ∙ get_or_default ls j l nil (omega (arith, s.many))

    held_at : Holds cs l (row t j)
    held_at = rw is (s.held.each j (omega (arith, s.many)))

    apart_at : (k : ℕ) → k < length ls → k ≢ j → Apart l (get_or ls k nil)
    apart_at k kl n = rw is (s.held.apart j k (omega (arith, s.many)) kl (λ q. n (sym q)))

    pub back_at : (k : ℕ) → l.back ≡ Some k → k < length cs
    back_at k q = (held_last cs l k (row t j, held_at) q).1.within

    pub front_at : (k : ℕ) → l.front ≡ Some k → (k < length cs) × (0 < l.len)
    front_at k q = front_in cs l k q (row t j, held_at)

    pub total_set : (m : Chain) → total (set ls j m) + l.len ≡ total ls + m.len
    total_set m = let q = ap size is in omega (arith, s.many, sum_by-set size ls j m nil (omega (arith, s.many)))

    pub len_total : l.len ≤ total ls
    len_total = let q = ap size is in omega (arith, s.many, get_or-le-sum_by size ls j nil (omega (arith, s.many)))

    pub push_shows : (cs' : List (Cell T)) (m : Chain) (x : T) → ((k : Chain) (xs : List T) → Holds cs k xs → Holds cs' k xs) → ((xs : List T) → Holds cs l xs → Holds cs' m (x ∷ xs)) → ((k : Chain) → Held cs k → Apart l k → Apart m k) → Shows cs' (set ls j m) (set t j (x ∷ row t j))
    push_shows cs' m x frame pushed away =
        set_shows cs' j m (x ∷ row t j) lt (λ k kl n. frame _ _ (s.held.each k kl)) (pushed (row t j) held_at)
        (λ k kl n. away _ (row t k, s.held.each k kl) (apart_at k kl n))

    -- the top is taken off the list at j: m is what is left of it
    pub pop_shows : (m : Chain) (x : T) → ((xs : List T) → Holds cs l xs → (ys : List T) × (xs ≡ x ∷ ys) × Holds cs m ys) → ((k : Chain) → Apart l k → Apart m k) → (Some x ≡ top (row t j)) × Shows cs (set ls j m) (set t j (rest (row t j)))
    pop_shows m x popped away =
        let p = popped (row t j) held_at in
        (ap top (sym p.1), set_shows cs j m (rest (row t j)) lt (λ k kl n. s.held.each k kl) (rw p.1 p.2) (λ k kl n. away (get_or ls k nil) (apart_at k kl n)))

-- a, the list at j, is taken, so that z is left there, and put in front of b, the list at i
module _ {T : Type 0} {cs : List (Cell T)} {ls : List Chain} {t : List (List T)} (s : Shows cs ls t) (i j : ℕ) (a b z : Chain) (li : i < length t) (lj : j < length t) (ne : i ≢ j) (ea : a ≡ get_or ls j a) (ez : z ≡ nil) (eb : b ≡ get_or (set ls j z) i b) where
  taken : Shows cs (set ls j z) (set t j [])
  taken =
      set_shows s cs j z [] lj (λ k kl n. s.held.each k kl) (rw ez (nil_holds cs)) (λ k kl n. rw ez (nil_apart (get_or ls k nil)))

  i_left : i < length (set t j [])
  i_left = omega (arith, length-set t j [])

  was_b : b ≡ get_or ls i b
  was_b = eb ∙ get_or-set_other ls j i z b ne

  pub join_fits : a.len + b.len ≤ total ls
  join_fits = let none = ap size ez in omega (arith, total_set s j a lj ea z, len_total taken i b i_left eb)

  pub join_total : (m : Chain) → m.len ≤ a.len + b.len → total (set (set ls j z) i m) ≤ total ls
  join_total m le =
      let none = ap size ez in omega (arith, total_set s j a lj ea z, total_set taken i b i_left eb m)

  apart_a : (k : ℕ) → k < length (set ls j z) → Apart a (get_or (set ls j z) k nil)
  apart_a k kl = elim (cases_eq k j) [
    | inl q ↦ rw (get_or-set_at ls j k z nil q (omega (arith, s.many)), ez) (apart_sym nil a (nil_apart a))
    | inr q ↦ rw (get_or-set_other ls j k z nil q) (apart_at s j a lj ea k (omega (arith, length-set ls j z)) q)
  ]

  pub join_shows : (cs' : List (Cell T)) (m : Chain) → ((xs ys : List T) → Holds cs a xs → Holds cs b ys → Apart a b → Holds cs' m (xs ++ ys)) → ((k : Chain) (xs : List T) → Holds cs k xs → Held cs a → Apart a k → Holds cs' k xs) → ((k : Chain) → Apart a k → Apart b k → Apart m k) → Shows cs' (set (set ls j z) i m) (set (set t j []) i (row t j ++ row t i))
  join_shows cs' m joined frame away =
      let ha = held_at s j a lj ea in
      let ab : Apart a b = rw (is s i b li was_b) (apart_at s j a lj ea i (omega (arith, s.many)) ne) in
      set_shows taken cs' i m (row t j ++ row t i) i_left
      (λ k kl n. frame _ _ (taken.held.each k kl) (row t j, ha) (apart_a k kl))
      (joined (row t j) (row t i) ha (held_at s i b li was_b) ab)
      (λ k kl n. away (get_or (set ls j z) k nil) (apart_a k kl) (apart_at taken i b i_left eb k kl n))
