-- Elements of lists, filters, and lists one after the other.
use Rattle.std.proofs.Common.{◌≡◌, ℕ, suc, ◌≤◌, Bool, true, ◌≢◌, ◌⊎◌, List, [], ◌∷◌, ◌++◌, length, filter, sym, refl, ap, ◌∙◌, subst, ap₂, inl, inr, append-nil, arith, not}
use Rattle.std.proofs.lemmas.List.Filters.{length-filter_both}
use Rattle.std.proofs.lemmas.List.Elements.{filter-append}
use Rattle.std.proofs.lemmas.Bool.{cases_Bool}
use Rattle.naming.specs.Words.{Elem, Once, flat}

pub elem_left : {X : Type 0} (x : X) (xs ys : List X) → Elem x xs → Elem x (xs ++ ys)
elem_left x [] ys m = absurd m
elem_left x (y ∷ xs) ys (inl e) = inl e
elem_left x (y ∷ xs) ys (inr m) = inr (elem_left x xs ys m)

pub elem_right : {X : Type 0} (x : X) (xs ys : List X) → Elem x ys → Elem x (xs ++ ys)
elem_right x [] ys m = m
elem_right x (y ∷ xs) ys m = inr (elem_right x xs ys m)

pub elem_append : {X : Type 0} (x : X) (xs ys : List X) → Elem x (xs ++ ys) → Elem x xs ⊎ Elem x ys
elem_append x [] ys m = inr m
elem_append x (y ∷ xs) ys m = grind (arith, elem_append x xs ys)

pub elem_keep : {X : Type 0} (p : X → Bool) (x : X) (xs : List X) → Elem x (filter p xs) → Elem x xs × (p x ≡ true)
elem_keep p x [] m = absurd m
elem_keep p x (y ∷ xs) m = grind (arith, elem_keep p x xs, cases_Bool (p y))

pub keep_elem : {X : Type 0} (p : X → Bool) (x : X) (xs : List X) → Elem x xs → p x ≡ true → Elem x (filter p xs)
keep_elem p x [] m t = absurd m
keep_elem p x (y ∷ xs) m t = grind (arith, keep_elem p x xs, cases_Bool (p y))

pub elem_flat : {X : Type 0} (L : ℕ → List X) (x : X) (cs : List ℕ) → Elem x (flat L cs) → (c : ℕ) × Elem c cs × Elem x (L c)
elem_flat L x [] m = absurd m
elem_flat L x (c ∷ cs) m = pick (elem_append x (L c) (flat L cs) m) (elem_flat L x cs)
  where
    pick : Elem x (L c) ⊎ Elem x (flat L cs) → (Elem x (flat L cs) → (b : ℕ) × Elem b cs × Elem x (L b)) → (b : ℕ) × Elem b (c ∷ cs) × Elem x (L b)
    pick (inl q) next = (c, inl refl, q)
    pick (inr q) next = let r = next q in (r.0, inr r.1, r.2)

pub flat_elem : {X : Type 0} (L : ℕ → List X) (x : X) (c : ℕ) (cs : List ℕ) → Elem c cs → Elem x (L c) → Elem x (flat L cs)
flat_elem L x c [] m q = absurd m
flat_elem L x c (b ∷ cs) (inl e) q = elem_left x (L b) (flat L cs) (subst (λ (i : ℕ). Elem x (L i)) e q)
flat_elem L x c (b ∷ cs) (inr m) q = elem_right x (L b) (flat L cs) (flat_elem L x c cs m q)

pub once_append : {X : Type 0} (xs ys : List X) → Once xs → Once ys → ((x : X) → Elem x xs → Elem x ys → ⊥) → Once (xs ++ ys)
once_append [] ys o p h = p
once_append (x ∷ xs) ys o p h = (λ m. pick (elem_append x xs ys m), once_append xs ys o.1 p (λ y q r. h y (inr q) r))
  where
    pick : Elem x xs ⊎ Elem x ys → ⊥
    pick (inl q) = o.0 q
    pick (inr q) = h x (inl refl) q

pub once_keep : {X : Type 0} (p : X → Bool) (xs : List X) → Once xs → Once (filter p xs)
once_keep p [] o = tt
once_keep p (y ∷ xs) o = grind (arith, once_keep p xs, elem_keep p y xs, cases_Bool (p y))

pub once_flat : {X : Type 0} (L : ℕ → List X) (cs : List ℕ) → Once cs → ((c : ℕ) → Elem c cs → Once (L c)) →
    ((c d : ℕ) (x : X) → Elem c cs → Elem d cs → Elem x (L c) → Elem x (L d) → c ≡ d) → Once (flat L cs)
once_flat L [] o each apart = tt
once_flat L (c ∷ cs) o each apart =
    once_append (L c) (flat L cs) (each c (inl refl))
    (once_flat L cs o.1 (λ d m. each d (inr m)) (λ d e x m q. apart d e x (inr m) (inr q)))
    (λ x m q. let r = elem_flat L x cs q in
    o.0 (subst (λ (i : ℕ). Elem i cs) (sym (apart c r.0 x (inl refl) (inr r.1) m r.2)) r.1))

pub keep_none : {X : Type 0} (p : X → Bool) (xs : List X) → ((x : X) → Elem x xs → p x ≡ true → ⊥) → filter p xs ≡ []
keep_none p [] h = refl
keep_none p (y ∷ xs) h =
    let rest = keep_none p xs (λ x m. h x (inr m)) in
    let top = h y (inl refl) in
    grind (arith, cases_Bool (p y))

pub keep_all : {X : Type 0} (p : X → Bool) (xs : List X) → ((x : X) → Elem x xs → p x ≡ true) → filter p xs ≡ xs
keep_all p [] h = refl
keep_all p (y ∷ xs) h =
    let rest = keep_all p xs (λ x m. h x (inr m)) in
    let top = h y (inl refl) in
    grind arith

-- what passes p passes q: then q need not be asked
pub keep_inner : {X : Type 0} (p q : X → Bool) (xs : List X) → ((x : X) → p x ≡ true → q x ≡ true) → filter p (filter q xs) ≡ filter p xs
keep_inner p q [] h = refl
keep_inner p q (y ∷ xs) h =
    let rest = keep_inner p q xs h in
    let top = h y in
    grind (arith, cases_Bool (p y), cases_Bool (q y))

-- of lists one after the other, only that of c has what passes
pub keep_flat : {X : Type 0} (p : X → Bool) (L : ℕ → List X) (c : ℕ) (cs : List ℕ) → Once cs → Elem c cs →
    ((d : ℕ) → Elem d cs → d ≢ c → (x : X) → Elem x (L d) → p x ≡ true → ⊥) → filter p (flat L cs) ≡ filter p (L c)
keep_flat p L c [] o m h = absurd m
keep_flat p L c (b ∷ cs) o (inl e) h =
    filter-append p (L b) (flat L cs) ∙ ap₂ ◌++◌ (ap (λ (i : ℕ). filter p (L i)) (sym e)) (keep_none p (flat L cs) none) ∙ append-nil (filter p (L c))
  where
    none : (x : _) → Elem x (flat L cs) → p x ≡ true → ⊥
    none x q t = let r = elem_flat L x cs q in h r.0 (inr r.1) (λ f. o.0 (subst (λ (i : ℕ). Elem i cs) (f ∙ e) r.1)) x r.2 t
keep_flat p L c (b ∷ cs) o (inr m) h =
    filter-append p (L b) (flat L cs) ∙ ap₂ ◌++◌ (keep_none p (L b) (h b (inl refl) other)) (keep_flat p L c cs o.1 m (λ d q. h d (inr q)))
  where
    other : b ≢ c
    other e = o.0 (subst (λ (i : ℕ). Elem i cs) (sym e) m)

pub keep_length : {X : Type 0} (p : X → Bool) (xs : List X) → length (filter p xs) ≤ length xs
keep_length p xs = omega (arith, length-filter_both p (λ x. not (p x)) (λ _. refl) xs)

pub keep_same : {X : Type 0} (p : X → Bool) (xs : List X) → length (filter p xs) ≡ length xs → filter p xs ≡ xs
keep_same p [] h = refl
keep_same p (y ∷ xs) h = let le = keep_length p xs in grind (arith, keep_same p xs, cases_Bool (p y))

-- if the front is not empty, the top stands in it
pub top_front : {X : Type 0} (y x : X) (ys zs xs : List X) → ys ++ zs ≡ x ∷ xs → Elem y ys → Elem x ys
top_front y x [] zs xs e m = absurd m
top_front y x (a ∷ ys) zs xs e m = inl (cc)

pub single : {X : Type 0} (b : X) (xs : List X) → Once xs → Elem b xs → ((y : X) → Elem y xs → y ≡ b) → xs ≡ b ∷ []
single b [] o m h = absurd m
single b (y ∷ []) o m h = ap (λ i. i ∷ []) (h y (inl refl))
single b (y ∷ (z ∷ xs)) o m h = absurd (o.0 (inl (h y (inl refl) ∙ sym (h z (inr (inl refl))))))

pub none_empty : {X : Type 0} (xs : List X) → ((x : X) → Elem x xs → ⊥) → xs ≡ []
none_empty [] h = refl
none_empty (x ∷ xs) h = absurd (h x (inl refl))

-- lists that are the same for each number
pub flat_same : {X : Type 0} (L M : ℕ → List X) (cs : List ℕ) → ((c : ℕ) → Elem c cs → L c ≡ M c) → flat L cs ≡ flat M cs
flat_same L M [] h = refl
flat_same L M (c ∷ cs) h = ap₂ ◌++◌ (h c (inl refl)) (flat_same L M cs (λ d m. h d (inr m)))

-- a list of different elements is no longer than one that has them all
without : {X : Type 0} (x : X) (ys : List X) → Elem x ys → List X
without x [] m = absurd m
without x (y ∷ ys) (inl e) = ys
without x (y ∷ ys) (inr m) = y ∷ without x ys m

length_without : {X : Type 0} (x : X) (ys : List X) (m : Elem x ys) → length ys ≡ suc (length (without x ys m))
unfolding without
length_without x [] m = absurd m
length_without x (y ∷ ys) (inl e) = refl
length_without x (y ∷ ys) (inr m) = ap suc (length_without x ys m)

elem_without : {X : Type 0} (z x : X) (ys : List X) (m : Elem x ys) → Elem z ys → (z ≡ x → ⊥) → Elem z (without x ys m)
unfolding without
elem_without z x [] m q n = absurd m
elem_without z x (y ∷ ys) (inl e) (inl f) n = absurd (n (f ∙ sym e))
elem_without z x (y ∷ ys) (inl e) (inr q) n = q
elem_without z x (y ∷ ys) (inr m) (inl f) n = inl f
elem_without z x (y ∷ ys) (inr m) (inr q) n = inr (elem_without z x ys m q n)

pub once_length : {X : Type 0} (xs ys : List X) → Once xs → ((x : X) → Elem x xs → Elem x ys) → length xs ≤ length ys
once_length [] ys o h = omega arith
once_length (x ∷ xs) ys o h =
    let m = h x (inl refl) in
    let e = length_without x ys m in
    let r = once_length xs (without x ys m) o.1 (λ z q. elem_without z x ys m (h z (inr q)) (λ f. o.0 (subst (λ i. Elem i xs) f q))) in
    omega arith
