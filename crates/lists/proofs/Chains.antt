-- What a push, a join and a pop do to what the lists of an arena hold.
use Rattle.std.proofs.Common.{◌≡◌, ℕ, ◌+◌, ◌-◌, ◌<◌, ◌≢◌, true, false, List, [], ◌∷◌, ◌++◌, length, get_or, set, Some, None, Option, sym, refl, ap, ◌∙◌, subst, arith, length-append, length-set}
use Rattle.std.specs.Option.{is_some, option_or}
use Rattle.std.proofs.lemmas.List.{get_or_append_left, get_or-set_same, get_or-set_other, get_or_default, length_push, get_or_push}
use Rattle.std.proofs.lemmas.Option.{none-some}
use Rattle.std.proofs.lemmas.Bool.{false≢true}
use Rattle.lists.specs.declared.cells.Cell.{Cell}
use Rattle.lists.specs.declared.cells.Chain.{Chain}
use Rattle.lists.specs.Holds.{Has, Last, Walk, Holds, Held, Apart, nil}

pub none_some : {k : ℕ} → ◌≡◌ {A = Option ℕ} None (Some k) → ⊥
none_some e = cc

has_same : {T : Type 0} (cs : List (Cell T)) (i k : ℕ) (c d : Cell T) → Has cs i c → Has cs k d → i ≡ k → c ≡ d
has_same cs i k c d p q e = let r = get_or_default cs i c d p.within in let s = p.reads in let t = q.reads in cc

-- the cell at i, where it is known what was read there
has_read : {T : Type 0} (cs : List (Cell T)) (i k : ℕ) (c d : Cell T) → Has cs i c → i ≡ k → d ≡ get_or cs k d → c ≡ d
has_read cs i k c d p e r = let s = p.reads in let q = get_or_default cs i c d p.within in cc

has_push : {T : Type 0} (cs : List (Cell T)) (d : Cell T) (i : ℕ) (c : Cell T) → Has cs i c → Has (cs ++ d ∷ []) i c
has_push cs d i c h =
    record { within = omega (arith, h.within, length_push cs d); reads = h.reads ∙ sym (get_or_append_left cs (d ∷ []) c i h.within) }

has_set_other : {T : Type 0} (cs : List (Cell T)) (k : ℕ) (d : Cell T) (i : ℕ) (c : Cell T) → i ≢ k → Has cs i c → Has (set cs k d) i c
has_set_other cs k d i c ne h =
    record { within = omega (arith, h.within, length-set cs k d); reads = h.reads ∙ sym (get_or-set_other cs k i d c ne) }

walk_push : {T : Type 0} (cs : List (Cell T)) (d : Cell T) (f b : Option ℕ) (xs : List T) → Walk cs f b xs → Walk (cs ++ d ∷ []) f b xs
walk_push cs d f b [] w = w
walk_push cs d f b (x ∷ xs) w =
    (w.0, w.1, w.2, has_push cs d w.0 _ w.3, w.4, walk_push cs d w.1 b xs w.5)

last_some : {T : Type 0} (cs : List (Cell T)) (f b : Option ℕ) (x : T) (xs : List T) → Walk cs f b (x ∷ xs) → (k : ℕ) × (b ≡ Some k)
last_some cs f b x [] w = (w.0, w.4)
last_some cs f b x (z ∷ zs) w = last_some cs w.1 b z zs w.5

last_has : {T : Type 0} (cs : List (Cell T)) (f b : Option ℕ) (k : ℕ) (x : T) (xs : List T) → b ≡ Some k → Walk cs f b (x ∷ xs) → (y : T) × Has cs k (record { item = y; next = None })
last_has cs f b k x [] e w =
    let q : w.0 ≡ k = cc in
    (x, subst (λ (j : ℕ). Has cs j (record { item = x; next = None })) q (subst (λ (n : Option ℕ). Has cs w.0 (record { item = x; next = n })) w.5 w.3))
last_has cs f b k x (z ∷ zs) e w = last_has cs w.1 b k z zs e w.5

-- the last cell of a list that has one
pub held_last : {T : Type 0} (cs : List (Cell T)) (a : Chain) (k : ℕ) → Held cs a → a.back ≡ Some k → (y : T) × Has cs k (record { item = y; next = None })
held_last cs a k (([], h)) e = absurd (none-some _ (sym (h.empty h.walk) ∙ e))
held_last cs a k ((x ∷ xs, h)) e = last_has cs a.front a.back k x xs e h.walk

module _ {T : Type 0} (cs : List (Cell T)) (l : Chain) (x : T) (n : ℕ) (b : Option ℕ) (new : n ≡ length cs) (last : b ≡ option_or l.back (Some n)) where
  has_new : (d : Cell T) → Has (cs ++ d ∷ []) n d
  has_new d = record { within = omega (arith, length_push cs d); reads = sym (get_or_push cs d d n (sym new)) }

  push_holds : (xs : List T) → Holds cs l xs → Holds (cs ++ record { item = x; next = l.front } ∷ []) (record { front = Some n; back = b; len = l.len + 1 }) (x ∷ xs)
  push_holds [] h =
      let e = h.empty h.walk in
      record { walk = (n, l.front, refl, has_new _, rw e at last, h.walk); empty = λ z. cc; long = omega (arith, h.long) }
  push_holds (y ∷ ys) h =
      let k = last_some cs l.front l.back y ys h.walk in
      let same : b ≡ l.back = rw k.1 at last ∙ sym k.1 in
      record {
        walk = (n, l.front, refl, has_new _, tt, rw same (walk_push cs _ l.front l.back (y ∷ ys) h.walk));
        empty = λ z. cc;
        long = omega (arith, h.long);
      }

  pub push_apart : (m : Chain) → Held cs m → Apart l m → Apart (record { front = Some n; back = b; len = l.len + 1 }) m
  push_apart m h a k s t =
      elim l.back as (λ (o : Option ℕ). l.back ≡ o → ⊥) [
        | None ↦ λ e. let q : n ≡ k = let r = rw e at last in cc in omega (arith, (held_last cs m k h t).1.within)
        | Some j ↦ λ e. a k (let r = rw e at last in cc) t
      ] refl

  -- the same, of a list of cells that is known to be the longer one
  pub pushed_holds : (cs' : List (Cell T)) → cs' ≡ cs ++ record { item = x; next = l.front } ∷ [] → (xs : List T) → Holds cs l xs → Holds cs' (record { front = Some n; back = b; len = l.len + 1 }) (x ∷ xs)
  pushed_holds cs' q xs h = rw q (push_holds xs h)

pub pushed_frame : {T : Type 0} (cs cs' : List (Cell T)) (d : Cell T) → cs' ≡ cs ++ d ∷ [] → (m : Chain) (xs : List T) → Holds cs m xs → Holds cs' m xs
pushed_frame cs cs' d q m xs h =
    rw q (record { walk = walk_push cs d m.front m.back xs h.walk; empty = h.empty; long = h.long })

-- the cell k, the last of some list, is no cell that has a next one, nor one of a list that ends elsewhere
module _ {T : Type 0} (cs : List (Cell T)) (k : ℕ) (y : T) (last : Has cs k (record { item = y; next = None })) where
  inner : (i j : ℕ) (x : T) (n : Option ℕ) → Has cs i (record { item = x; next = n }) → n ≡ Some j → i ≢ k
  inner i j x n p e q = none-some _ (sym (ap (λ (c : Cell T). c.next) (has_same cs i k _ _ p last q)) ∙ e)

  differs : (i : ℕ) (x : T) (n b : Option ℕ) (xs : List T) → Has cs i (record { item = x; next = n }) → Last b i xs → Walk cs n b xs → b ≢ Some k → i ≢ k
  differs i x n b [] p l w nb = λ e. nb (l ∙ ap Some e)
  differs i x n b (z ∷ zs) p l w nb = inner i w.0 x n p w.2

  walk_set : (d : Cell T) (f b : Option ℕ) (xs : List T) → b ≢ Some k → Walk cs f b xs → Walk (set cs k d) f b xs
  walk_set d f b [] nb w = w
  walk_set d f b (x ∷ xs) nb w =
      (w.0, w.1, w.2, has_set_other cs k d w.0 _ (differs w.0 x w.1 b xs w.3 w.4 w.5 nb) w.3, w.4, walk_set d w.1 b xs nb w.5)

  -- the list that ends at k goes on at the cell g
  walk_join : (g f b : Option ℕ) (x : T) (xs : List T) (z : T) (zs : List T) → Walk cs f (Some k) (x ∷ xs) → Walk (set cs k (record { item = y; next = g })) g b (z ∷ zs) → Walk (set cs k (record { item = y; next = g })) f b ((x ∷ xs) ++ (z ∷ zs))
  walk_join g f b x [] z zs w v =
      let e : w.0 ≡ k = cc in
      let same : y ≡ x = ap (λ (c : Cell T). c.item) (sym (has_same cs w.0 k _ _ w.3 last e)) in
      let d : Cell T = record { item = y; next = g } in
      let h : Has (set cs k d) k d = record { within = omega (arith, last.within, length-set cs k d); reads = sym (get_or-set_same cs k d d last.within) } in
      (k, g, w.2 ∙ ap Some e, subst (λ u. Has (set cs k d) k (record { item = u; next = g })) same h, tt, v)
  walk_join g f b x (x' ∷ xs) z zs w v =
      (w.0, w.1, w.2, has_set_other cs k _ w.0 _ (inner w.0 w.5.0 x w.1 w.3 w.5.2) w.3, tt, walk_join g w.1 b x' xs z zs w.5 v)

pub join_frame : {T : Type 0} (cs : List (Cell T)) (a : Chain) (k : ℕ) (d : Cell T) → Held cs a → a.back ≡ Some k → (m : Chain) (xs : List T) → Holds cs m xs → Apart a m → Holds (set cs k d) m xs
join_frame cs a k d ha e m xs h away =
    let y = held_last cs a k ha e in
    record { walk = walk_set cs k y.0 y.1 d m.front m.back xs (away k e) h.walk; empty = h.empty; long = h.long }

pub join_holds : {T : Type 0} (cs : List (Cell T)) (a b : Chain) (k : ℕ) (v : Cell T) → v ≡ get_or cs k v → a.back ≡ Some k → is_some b.front ≡ true → (xs ys : List T) → Holds cs a xs → Holds cs b ys → Apart a b → Holds (set cs k (record { item = v.item; next = b.front })) (record { front = a.front; back = b.back; len = a.len + b.len }) (xs ++ ys)
join_holds cs a b k v r ea nb [] ys ha hb away = absurd (none-some _ (sym (ha.empty ha.walk) ∙ ea))
join_holds cs a b k v r ea nb (x ∷ xs) [] ha hb away = absurd (false≢true (sym (ap is_some hb.walk) ∙ nb))
join_holds cs a b k v r ea nb (x ∷ xs) (z ∷ zs) ha hb away =
    let y = held_last cs a k (x ∷ xs, ha) ea in
    let same : y.0 ≡ v.item = ap (λ (c : Cell _). c.item) (has_read cs k k _ v y.1 refl r) in
    let last : Has cs k (record { item = v.item; next = None }) = subst (λ u. Has cs k (record { item = u; next = None })) same y.1 in
    let wa : Walk cs a.front (Some k) (x ∷ xs) = rw ea at ha.walk in
    record {
      walk = walk_join cs k v.item last b.front a.front b.back x xs z zs wa (walk_set cs k v.item last _ b.front b.back (z ∷ zs) (away k ea) hb.walk);
      empty = λ e. absurd (none-some _ (sym e ∙ wa.2));
      long = omega (arith, ha.long, hb.long, length-append (x ∷ xs) (z ∷ zs));
    }

pub empty_back : {T : Type 0} (cs : List (Cell T)) (a : Chain) (xs : List T) → a.back ≡ None → Holds cs a xs → xs ≡ []
empty_back cs a [] e h = refl
empty_back cs a (x ∷ xs) e h = absurd (none-some _ (sym e ∙ (last_some cs a.front a.back x xs h.walk).1))

pub empty_front : {T : Type 0} (cs : List (Cell T)) (a : Chain) (xs : List T) → is_some a.front ≡ false → Holds cs a xs → xs ≡ []
empty_front cs a [] e h = refl
empty_front cs a (x ∷ xs) e h = absurd (false≢true (sym e ∙ ap is_some h.walk.2))

-- the chain that `Default` makes
pub default_nil : (l : Chain) → (l.front ≡ None) × ((l.back ≡ None) × (l.len ≡ 0)) → l ≡ nil
default_nil l d = same l.front l.back l.len d.0 d.1.0 d.1.1
  where
    same : (f b : Option ℕ) (n : ℕ) → f ≡ None → b ≡ None → n ≡ 0 → ◌≡◌ {A = Chain} (record { front = f; back = b; len = n }) nil
    same f b n p q r = rw (p, q, r)

pub nil_holds : {T : Type 0} (cs : List (Cell T)) → Holds cs nil []
nil_holds cs = record { walk = refl; empty = λ e. refl; long = refl }

pub nil_apart : (m : Chain) → Apart nil m
nil_apart m k e f = none-some k e

-- the first cell
pub front_in : {T : Type 0} (cs : List (Cell T)) (l : Chain) (i : ℕ) → l.front ≡ Some i → Held cs l → (i < length cs) × (0 < l.len)
front_in cs l i e (([], h)) = absurd (none-some _ (sym h.walk ∙ e))
front_in cs l i e ((x ∷ xs, h)) =
    let q : h.walk.0 ≡ i = let s = h.walk.2 in cc in
    (omega (arith, h.walk.3.within), omega (arith, h.long))

module _ {T : Type 0} (cs : List (Cell T)) (l : Chain) (i : ℕ) (v : Cell T) (front : l.front ≡ Some i) (read : v ≡ get_or cs i v) where
  front_is : (x : T) (xs : List T) (h : Holds cs l (x ∷ xs)) → record { item = x; next = h.walk.1 } ≡ v
  front_is x xs h =
      let q : h.walk.0 ≡ i = let s = h.walk.2 in cc in
      has_read cs h.walk.0 i _ v h.walk.3 q read

  pub pop_one : (z : Chain) → z ≡ nil → l.len ≡ 1 → (xs : List T) → Holds cs l xs → (ys : List T) × (xs ≡ v.item ∷ ys) × Holds cs z ys
  pop_one z ez n [] h = absurd (none-some _ (sym h.walk ∙ front))
  pop_one z ez n (x ∷ []) h =
      ([], ap (λ (c : Cell T). c.item ∷ []) (front_is x [] h), rw ez (nil_holds cs))
  pop_one z ez n (x ∷ y ∷ zs) h = absurd (omega (arith, h.long))

  pub pop_more : (l.len ≡ 1 → ⊥) → (xs : List T) → Holds cs l xs → (ys : List T) × (xs ≡ v.item ∷ ys) × Holds cs (record { front = v.next; back = l.back; len = l.len - 1 }) ys
  pop_more n [] h = absurd (none-some _ (sym h.walk ∙ front))
  pop_more n (x ∷ []) h = absurd (n h.long)
  pop_more n (x ∷ y ∷ zs) h =
      let s = front_is x (y ∷ zs) h in
      let nx : h.walk.1 ≡ v.next = ap (λ (c : Cell T). c.next) s in (
        y ∷ zs,
        ap (λ (c : Cell T). c.item ∷ y ∷ zs) s,
        record {
          walk = rw nx at h.walk.5;
          empty = λ z. absurd (none-some _ (sym z ∙ sym nx ∙ h.walk.5.2));
          long = omega (arith, h.long);
        },
      )
