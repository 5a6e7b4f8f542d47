-- The items that end at a number, counted.
use Rattle.std.proofs.Common.{◌≡◌, ℕ, zero, suc, ◌+◌, ◌-◌, ◌<◌, ◌≤◌, Bool, true, false, cond, ◌&&◌, eqb, ◌≢◌, List, [], ◌∷◌, ◌++◌, length, filter, sym, refl, ap, ◌∙◌, subst, ap₂, inl, inr, arith, length-append}
use Rattle.std.proofs.lemmas.Bool.Decides.{nat_tests}
use Rattle.naming.proofs.Lists.{flat_same}
use Rattle.std.proofs.lemmas.List.Elements.{filter-append}
use Rattle.std.proofs.lemmas.Bool.{cases_lt, cases_Bool, and_right, eq-eqb, ne_eqb, and_from}
use Rattle.model.specs.Meaning.{EndsBelow}
use Rattle.model.specs.Walks.{Links}
use Rattle.naming.specs.Words.{Elem, Once, flat}
use Rattle.naming.specs.Names.{ending_at}
use Rattle.naming.specs.Built.{Base, shape_of}
use Rattle.naming.specs.Searched.{Searched, Upward, low_second, capped, base_of}
use Rattle.naming.specs.Turns.{numbers, later}
use Rattle.naming.specs.DepthFirst.{DepthFirst, is_back, back_links, searched}
use Rattle.naming.specs.Ended.{back_ends, cap_ends, EndsCounted}
use Rattle.naming.proofs.Searched.{link_dst, cap_dst}
use Rattle.naming.proofs.Turns.{numbers_in, in_numbers, numbers_once, numbers_none, numbers_more}
use Rattle.naming.proofs.DepthFirst.{links_none, links_yes, links_no, upward, goes_up, back_parts}

-- tests that agree on the list keep the same
keep_alike : {X : Type 0} (p q : X → Bool) (xs : List X) → ((x : X) → Elem x xs → p x ≡ q x) → filter p xs ≡ filter q xs
keep_alike p q [] h = refl
keep_alike p q (x ∷ xs) h = ap₂ (λ b l. cond b (x ∷ l) l) (h x (inl refl)) (keep_alike p q xs (λ y m. h y (inr m)))

-- how many of the list pass the test
abbrev pub tally : {X : Type 0} → (X → Bool) → List X → ℕ
tally p xs = length (filter p xs)

tally_append : {X : Type 0} (p : X → Bool) (xs ys : List X) → tally p (xs ++ ys) ≡ tally p xs + tally p ys
tally_append p xs ys = ap length (filter-append p xs ys) ∙ length-append (filter p xs) (filter p ys)

tally_cons : {X : Type 0} (p : X → Bool) (x : X) (xs : List X) → tally p (x ∷ xs) ≡ cond (p x) 1 0 + tally p xs
tally_cons p x xs = grind (arith, cases_Bool (p x))

-- one of the lists has one item more
flat_one :
    {X : Type 0} (p : X → Bool) (L M : ℕ → List X) (x : X) (f : ℕ) (js : List ℕ) → Once js → Elem f js → M f ≡ x ∷ L f →
    ((j : ℕ) → j ≢ f → M j ≡ L j) →
    tally p (flat M js) ≡ cond (p x) 1 0 + tally p (flat L js)
flat_one p L M x f [] o m e same = absurd m
flat_one p L M x f (j ∷ js) o (inl q) e same =
    let a = tally_append p (M j) (flat M js) in
    let b = tally_append p (L j) (flat L js) in
    let c : tally p (M j) ≡ cond (p x) 1 0 + tally p (L j) = ap (tally p) (ap M (sym q) ∙ e ∙ ap (λ (i : ℕ). x ∷ L i) q) ∙ tally_cons p x (L j) in
    let d = ap (tally p) (flat_same M L js (λ i m. same i (λ r. o.0 (subst (λ (t : ℕ). Elem t js) (r ∙ q) m)))) in
    omega arith
flat_one p L M x f (j ∷ js) o (inr m) e same =
    let a = tally_append p (M j) (flat M js) in
    let b = tally_append p (L j) (flat L js) in
    let c = ap (tally p) (same j (λ q. o.0 (subst (λ (t : ℕ). Elem t js) (sym q) m))) in
    let d = flat_one p L M x f js o.1 m e same in
    omega arith

module _ (P : Searched) (good : Upward P) (v : ℕ) where
  abbrev B : Base ℕ
  B = base_of P

  abbrev ends : ℕ → Bool
  ends x = eqb (B.dst x) v

  abbrev there : ℕ → Bool
  there x = eqb (P.to x) v

  -- the own items of one number: its cap and its back links
  own_ends : (j : ℕ) → j < P.size → tally ends (B.own j) ≡ cond (capped P j && eqb (low_second P j) v) 1 0 + tally there (P.links j)
  own_ends j l =
      let a = tally_cons ends (P.many + j) (P.links j) in
      let b = ap (λ (i : ℕ). eqb i v) (cap_dst P good (P.many + j) j refl) in
      let c = ap length (keep_alike ends there (P.links j) (λ x m. ap (λ (i : ℕ). eqb i v) (link_dst P good x (good.link j x l m).0))) in
      grind (arith, cases_Bool (capped P j))

  -- those of m numbers from k on
  all_ends : (m k : ℕ) → k + m ≤ P.size → tally ends (flat B.own (numbers m k)) ≡ cap_ends P m k v + tally there (flat P.links (numbers m k))
  unfolding cap_ends
  all_ends zero k l =
      let a : tally ends (flat B.own (numbers 0 k)) ≡ 0 = ap (λ js. tally ends (flat B.own js)) (numbers_none 0 k refl) in
      let b : tally there (flat P.links (numbers 0 k)) ≡ 0 = ap (λ js. tally there (flat P.links js)) (numbers_none 0 k refl) in
      omega arith
  all_ends (suc m) k l =
      let a = ap (λ js. tally ends (flat B.own js)) (numbers_more m k) ∙ tally_append ends (B.own k) (flat B.own (numbers m (suc k))) in
      let b = ap (λ js. tally there (flat P.links js)) (numbers_more m k) ∙ tally_append there (P.links k) (flat P.links (numbers m (suc k))) in
      let c = own_ends k (omega arith) in
      let d = all_ends m (suc k) (omega arith) in
      omega arith

module _ (G : Links) (n : ℕ) (within : EndsBelow n G) (number step parent link : ℕ → ℕ) (T : DepthFirst G n number step parent link) (v : ℕ) (lv : v < n) where
  abbrev Q : Searched
  Q = searched G n number parent link

  abbrev behind : List ℕ
  behind = numbers (n - suc v) (suc v)

  abbrev to_v : ℕ → Bool
  to_v e = eqb (Q.to e) v

  abbrev starts : ℕ → ℕ → Bool
  starts e k = is_back G n number link e && eqb (Q.from e) k

  abbrev lists : ℕ → ℕ → List ℕ
  lists = back_links G n number link

  -- a back link goes up
  up : (m : ℕ) → m < length G → is_back G n number link m ≡ true → (Q.to m < Q.from m) × (Q.from m < n)
  up m l t = let u = goes_up G n within number step parent link T m l (back_parts G n within number step parent link T m t).1 in (u.0, u.1)

  -- one that starts behind v is on one list more, any other link is on none of them
  added : (m : ℕ) → is_back G n number link m ≡ true → v < Q.from m → Q.from m < n →
      tally to_v (flat (lists (suc m)) behind) ≡ cond (to_v m) 1 0 + tally to_v (flat (lists m) behind)
  added m t h l =
      flat_one to_v (lists m) (lists (suc m)) m (Q.from m) behind (numbers_once (n - suc v) (suc v))
      (in_numbers (n - suc v) (suc v) (Q.from m) (omega arith) (omega arith))
      (links_yes G n number link m (Q.from m) (and_from (is_back G n number link m) (eqb (Q.from m) (Q.from m)) t (eq-eqb (Q.from m) (Q.from m) refl)))
      (λ j d. links_no G n number link m j (and_right (is_back G n number link m) (eqb (Q.from m) j) (ne_eqb (Q.from m) j (λ q. d (sym q)))))

  kept : (m : ℕ) → (is_back G n number link m ≡ true → Q.from m ≤ v) → tally to_v (flat (lists (suc m)) behind) ≡ tally to_v (flat (lists m) behind)
  kept m h = ap (tally to_v) (flat_same (lists (suc m)) (lists m) behind (λ j e. links_no G n number link m j (no j (numbers_in (n - suc v) (suc v) j e).0)))
    where
      no : (j : ℕ) → suc v ≤ j → starts m j ≡ false
      no j l = grind (arith, nat_tests, cases_Bool (is_back G n number link m))

  -- the back links among the first m links that end at v, all from behind v
  back_counted : (m : ℕ) → m ≤ length G → tally to_v (flat (lists m) behind) ≡ back_ends G n number link m v
  back_counted zero l = none behind
    where
      none : (js : List ℕ) → tally to_v (flat (lists zero) js) ≡ 0
      none [] = refl
      none (j ∷ js) =
          let a = tally_append to_v (lists zero j) (flat (lists zero) js) in
          let b : tally to_v (lists zero j) ≡ 0 = ap (tally to_v) (links_none G n number link j) in
          let c = none js in
          omega arith
  back_counted (suc m) l =
      let rest = back_counted m (omega arith) in
      let u = up m (omega arith) in
      let more = added m in
      let same = kept m in
      grind (arith, nat_tests, cases_Bool (is_back G n number link m), cases_lt v (Q.from m))

  pub counted :
      length (ending_at (shape_of (base_of Q)) v (later (base_of Q) (suc v))) ≡ back_ends G n number link (length G) v + cap_ends Q (n - suc v) (suc v) v
  counted =
      let a = all_ends Q (upward G n within number step parent link T) v (n - suc v) (suc v) (omega arith) in
      let b = back_counted (length G) (omega arith) in
      omega arith

pub ends_counted : EndsCounted
ends_counted G n within number step parent link T v l = counted G n within number step parent link T v l
