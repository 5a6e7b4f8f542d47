-- Rows of lists, one for each step: what a change of one row does, and which arcs and links the rows of a graph have.
use Rattle.std.proofs.Common.{◌≡◌, ℕ, zero, suc, ◌+◌, ◌<◌, ◌≤◌, true, eqb, ◌⊎◌, List, [], ◌∷◌, map, length, get_or, set, sym, refl, ap, ◌∙◌, subst, inl, inr, add-one, arith, length-set}
use Rattle.std.proofs.lemmas.Bool.{cond_both, eqb-true, cond-true, cond-false, eqb-false, cases_eq, cases_lt, ne_eqb, eq-eqb}
use Rattle.std.proofs.lemmas.List.{get_or-set_same, get_or-set_other, get_or_past, length-map}
use Rattle.std.proofs.Math.ListN.{get_or-map}
use Rattle.lists.specs.Many.{row, Reads}
use Rattle.search.specs.declared.arcs.Arc.{Arc}
use Rattle.model.specs.declared.numbers.Ends.{Ends}
use Rattle.model.specs.Meaning.{tail_of, head_of, EndsBelow, pair_of, ends_from}
use Rattle.search.specs.Joined.{add, arc, arcs_of, Joins}
use Rattle.search.proofs.Places.{In}

-- the row v once the row j is xs
pub row_both : {T : Type 0} (t : List (List T)) (j : ℕ) (xs : List T) (v : ℕ) → j < length t → (P : List T → Type 0) → (v ≡ j → P xs) → ((v ≡ j → ⊥) → P (row t v)) → P (row (set t j xs) v)
row_both t j xs v lt P here other = go (cases_eq v j)
  where
    go : (v ≡ j) ⊎ (v ≡ j → ⊥) → P (row (set t j xs) v)
    go (inl e) =
        subst P (sym (ap (λ (k : ℕ). row (set t j xs) k) e ∙ get_or-set_same t j xs [] lt)) (here e)
    go (inr ne) = subst P (sym (get_or-set_other t j v xs [] ne)) (other ne)

-- a row is one of those that are read, or empty
pub row_cases : {T : Type 0} (t : List (List T)) (rows : ℕ → List T) (v : ℕ) → Reads t rows → (row t v ≡ rows v) ⊎ (row t v ≡ [])
row_cases t rows v r = go (cases_lt v (length t))
  where
    go : (v < length t) ⊎ (length t ≤ v) → (row t v ≡ rows v) ⊎ (row t v ≡ [])
    go (inl p) = inl (r v p)
    go (inr p) = inr (get_or_past t v [] p)

-- the lists of t are n, those of the rows
abbrev pub Table : {T : Type 0} → ℕ → (ℕ → List T) → List (List T) → Type 0
Table n rows t = (length t ≡ n) × Reads t rows

-- x is put on top of the row k
pub table_add : {T : Type 0} (n : ℕ) (rows : ℕ → List T) (t t' : List (List T)) (k : ℕ) (x : T) → k < n → t' ≡ set t k (x ∷ row t k) → Table n rows t → Table n (add rows k x) t'
table_add {T = T} n rows t t' k x lt e r =
    subst (λ (u : List (List T)). Table n (add rows k x) u) (sym e) (length-set t k (x ∷ row t k) ∙ r.0, more)
  where
    more : Reads (set t k (x ∷ row t k)) (add rows k x)
    more v lv =
        let long = r.0 in
        let lk : k < length t = omega arith in
        let lv' : v < length t = omega (arith, length-set t k (x ∷ row t k)) in
        row_both t k (x ∷ row t k) v lk (λ xs. xs ≡ add rows k x v)
        (λ d. ap (λ xs. x ∷ xs) (r.1 k lk ∙ ap rows (sym d)) ∙ sym (cond-true (eqb v k) (x ∷ rows v) (rows v) (eq-eqb v k d)))
        (λ d. r.1 v lv' ∙ sym (cond-false (eqb v k) (x ∷ rows v) (rows v) (ne_eqb v k d)))

pub in_add : {T : Type 0} (rows : ℕ → List T) (k : ℕ) (x : T) (v : ℕ) (a : T) → In a (add rows k x v) → ((v ≡ k) × (a ≡ x)) ⊎ In a (rows v)
in_add {T = T} rows k x v a =
    cond_both (eqb v k) (x ∷ rows v) (rows v) (λ t. In a t → ((v ≡ k) × (a ≡ x)) ⊎ In a (rows v)) (λ q. go q) (λ q h. inr h)
  where
    go : eqb v k ≡ true → In a (x ∷ rows v) → ((v ≡ k) × (a ≡ x)) ⊎ In a (rows v)
    go q (inl e) = inl (eqb-true v k q, e)
    go q (inr h) = inr h

pub add_keeps : {T : Type 0} (rows : ℕ → List T) (k : ℕ) (x : T) (v : ℕ) (a : T) → In a (rows v) → In a (add rows k x v)
add_keeps rows k x v a h = cond_both (eqb v k) (x ∷ rows v) (rows v) (λ t. In a t) (λ q. inr h) (λ q. h)

pub add_has : {T : Type 0} (rows : ℕ → List T) (k : ℕ) (x : T) (v : ℕ) → v ≡ k → In x (add rows k x v)
add_has rows k x v e = cond_both (eqb v k) (x ∷ rows v) (rows v) (λ t. In x t) (λ q. inl refl) (λ q. absurd (eqb-false v k q e))

-- the two arcs of the link i
abbrev fore : List (ℕ × ℕ) → ℕ → Arc
fore G i = arc i (head_of G i)

abbrev rear : List (ℕ × ℕ) → ℕ → Arc
rear G i = arc i (tail_of G i)

-- the rows with the first of them
abbrev half : List (ℕ × ℕ) → ℕ → ℕ → List Arc
half G i = add (arcs_of G i) (tail_of G i) (fore G i)

-- each arc of a row is of a link that joins its step and the other
pub arcs_join : (G : List (ℕ × ℕ)) (i : ℕ) → i ≤ length G → (v : ℕ) (a : Arc) → In a (arcs_of G i v) → Joins G a.link.0 v a.to.0
arcs_join G zero le v a h = absurd h
arcs_join G (suc i) le v a h =
    go (λ q. arcs_join G i (omega arith) v a q) (in_add (half G i) (head_of G i) (rear G i) v a h)
  where
    lt : i < length G
    lt = omega arith

    one : (In a (arcs_of G i v) → Joins G a.link.0 v a.to.0) → ((v ≡ tail_of G i) × (a ≡ fore G i)) ⊎ In a (arcs_of G i v) → Joins G a.link.0 v a.to.0
    one f (inl p) = subst (λ (t : Arc). Joins G t.link.0 v t.to.0) (sym p.1) (lt, inl (sym p.0, refl))
    one f (inr q) = f q

    go : (In a (arcs_of G i v) → Joins G a.link.0 v a.to.0) → ((v ≡ head_of G i) × (a ≡ rear G i)) ⊎ In a (half G i v) → Joins G a.link.0 v a.to.0
    go f (inl p) = subst (λ (t : Arc). Joins G t.link.0 v t.to.0) (sym p.1) (lt, inr (refl, sym p.0))
    go f (inr q) = one f (in_add (arcs_of G i) (tail_of G i) (fore G i) v a q)

-- each link stands in the rows of both of its ends
pub arcs_whole : (G : List (ℕ × ℕ)) (i : ℕ) (l u v : ℕ) → l < i → Joins G l u v → In (arc l v) (arcs_of G i u)
arcs_whole G zero l u v lt j = absurd (omega arith)
arcs_whole G (suc i) l u v lt j = go (λ ne. arcs_whole G i l u v (omega arith) j) (cases_eq l i) j.1
  where
    go : ((l ≡ i → ⊥) → In (arc l v) (arcs_of G i u)) → (l ≡ i) ⊎ (l ≡ i → ⊥) → ((tail_of G l ≡ u) × (head_of G l ≡ v)) ⊎ ((tail_of G l ≡ v) × (head_of G l ≡ u)) → In (arc l v) (arcs_of G (suc i) u)
    go f (inr ne) p =
        add_keeps (half G i) (head_of G i) (rear G i) u _ (add_keeps (arcs_of G i) (tail_of G i) (fore G i) u _ (f ne))
    go f (inl e) (inl p) =
        let a : u ≡ tail_of G i = sym p.0 ∙ ap (λ (t : ℕ). tail_of G t) e in
        let b : head_of G i ≡ v = ap (λ (t : ℕ). head_of G t) (sym e) ∙ p.1 in
        let s : ◌≡◌ {A = Arc} (arc i (head_of G i)) (arc l v) = cc in
        add_keeps (half G i) (head_of G i) (rear G i) u _
        (subst (λ (t : Arc). In t (half G i u)) s (add_has (arcs_of G i) (tail_of G i) (fore G i) u a))
    go f (inl e) (inr p) =
        let a : u ≡ head_of G i = sym p.1 ∙ ap (λ (t : ℕ). head_of G t) e in
        let b : tail_of G i ≡ v = ap (λ (t : ℕ). tail_of G t) (sym e) ∙ p.0 in
        let s : ◌≡◌ {A = Arc} (arc i (tail_of G i)) (arc l v) = cc in
        subst (λ (t : Arc). In t (arcs_of G (suc i) u)) s (add_has (half G i) (head_of G i) (rear G i) u a)

-- the ends that the code reads of the link i
pub ends_at : (es : List Ends) (i : ℕ) → get_or (map pair_of es) i (0, 0) ≡ pair_of (get_or es i (ends_from (0, 0)))
ends_at es i = get_or-map pair_of es i (ends_from (0, 0))

pub ends_in : (es : List Ends) (n : ℕ) → EndsBelow n (map pair_of es) → (i : ℕ) → i < length es → ((get_or es i (ends_from (0, 0))).tail.0 < n) × ((get_or es i (ends_from (0, 0))).head.0 < n)
ends_in es n below i lt =
    subst (λ (p : ℕ × ℕ). (p.0 < n) × (p.1 < n)) (ends_at es i) (below i (omega (arith, length-map es pair_of)))

-- what the two pushes of a turn do, the link i having the ends p
pub arcs_more : (n : ℕ) (G : List (ℕ × ℕ)) (t t₁ t₂ : List (List Arc)) (i : ℕ) (p : ℕ × ℕ) → get_or G i (0, 0) ≡ p → (p.0 < n) × (p.1 < n) → t₁ ≡ set t p.0 (arc i p.1 ∷ row t p.0) → t₂ ≡ set t₁ p.1 (arc i p.0 ∷ row t₁ p.1) → Table n (arcs_of G i) t → Table n (arcs_of G (i + 1)) t₂
arcs_more n G t t₁ t₂ i p e lt one two r =
    subst (λ (k : ℕ). Table n (arcs_of G k) t₂) (sym (add-one i))
    (subst (λ (q : ℕ × ℕ). Table n (add (add (arcs_of G i) q.0 (arc i q.1)) q.1 (arc i q.0)) t₂) (sym e)
    (table_add n _ t₁ t₂ p.1 (arc i p.0) lt.1 two (table_add n (arcs_of G i) t t₁ p.0 (arc i p.1) lt.0 one r)))
