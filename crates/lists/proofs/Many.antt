-- A change of one list, as the rows and a fact on each item see it.
use Rattle.std.proofs.Common.{◌≡◌, ℕ, ◌+◌, ◌<◌, ◌≢◌, List, [], ◌∷◌, ◌++◌, length, set, replicate, Some, None, IfSome, sum_by, refl, sym, subst, ap, ◌∙◌, inl, inr, arith, length-set}
use Rattle.std.specs.List.{All}
use Rattle.std.proofs.lemmas.List.{get_or-set_same, get_or-set_other, get_or-replicate, length-replicate, set-get_or}
use Rattle.std.proofs.lemmas.List.Elements.{All-nil, All-head, All-tail, All-append, All-weaker}
use Rattle.std.proofs.lemmas.List.Sums.{sum_by-set}
use Rattle.std.proofs.lemmas.Bool.{cond-true, cond-false, cases_eq, eq-eqb, ne_eqb}
use Rattle.lists.specs.Rows.{put, top, rest}
use Rattle.lists.specs.Many.{row, Reads, EachItem}

-- what holds of the new list at j and of the others as they were, holds of each
set_both : {T : Type 0} (t : List (List T)) (j : ℕ) (xs : List T) (P : ℕ → List T → Type 0) → P j xs → ((k : ℕ) → k ≢ j → k < length t → P k (row t k)) → (k : ℕ) → k < length (set t j xs) → P k (row (set t j xs) k)
set_both t j xs P new old k lt =
    let kl : k < length t = omega (arith, length-set t j xs) in
    elim (cases_eq k j) [
      | inl q ↦ subst (λ (i : ℕ). P i (row (set t j xs) i)) (sym q) (subst (P j) (sym (get_or-set_same t j xs [] (subst (λ (i : ℕ). i < length t) q kl))) new)
      | inr n ↦ subst (P k) (sym (get_or-set_other t j k xs [] n)) (old k n kl)
    ]

pub reads-set : {T : Type 0} (t : List (List T)) (rows : ℕ → List T) (j : ℕ) (xs : List T) → Reads t rows → Reads (set t j xs) (put rows j xs)
reads-set t rows j xs r =
    set_both t j xs (λ k ys. ys ≡ put rows j xs k) (sym (cond-true _ xs (rows j) (eq-eqb j j refl)))
    (λ k n lt. r k lt ∙ sym (cond-false _ xs (rows k) (ne_eqb k j n)))

pub reads-replicate : {T : Type 0} (n : ℕ) → Reads {T = T} (replicate n []) (λ _. [])
reads-replicate n k lt = get_or-replicate n k [] [] (rw length-replicate at lt)

pub each-set : {T : Type 0} (P : ℕ → T → Type 0) (t : List (List T)) (j : ℕ) (xs : List T) → EachItem P t → All (P j) xs → EachItem P (set t j xs)
each-set P t j xs e a = set_both t j xs (λ k ys. All (P k) ys) a (λ k n lt. e k lt)

pub each-replicate : {T : Type 0} (P : ℕ → T → Type 0) (n : ℕ) → EachItem P (replicate n [])
each-replicate P n k lt = rw (reads-replicate n k lt) (All-nil (P k))

pub each-weaker : {T : Type 0} (P Q : ℕ → T → Type 0) (t : List (List T)) → ((j : ℕ) (x : T) → P j x → Q j x) → EachItem P t → EachItem Q t
each-weaker P Q t f e k lt = All-weaker (P k) (Q k) (f k) (row t k) (e k lt)

-- what holds of each item of a list holds of its top, and of the items after it
pub all_top : {T : Type 0} (P : T → Type 0) (xs : List T) → All P xs → IfSome (top xs) P
all_top P [] a = tt
all_top P (x ∷ xs) a = All-head P x xs a

pub all_rest : {T : Type 0} (P : T → Type 0) (xs : List T) → All P xs → All P (rest xs)
all_rest P [] a = All-nil P
all_rest P (x ∷ xs) a = All-tail P x xs a

-- a pop, and a join of the list j into the list i
pub each-popped : {T : Type 0} (P : ℕ → T → Type 0) (t : List (List T)) (j : ℕ) → j < length t → EachItem P t → EachItem P (set t j (rest (row t j)))
each-popped P t j lt e = each-set P t j _ e (all_rest (P j) (row t j) (e j lt))

pub each-joined : {T : Type 0} (P : ℕ → T → Type 0) (t : List (List T)) (i j : ℕ) → i < length t → j < length t → ((x : T) → P j x → P i x) → EachItem P t → EachItem P (set (set t j []) i (row t j ++ row t i))
each-joined P t i j li lj f e =
    each-set P (set t j []) i _ (each-set P t j [] e (All-nil (P j)))
    (All-append (P i) (row t j) (row t i) (All-weaker (P j) (P i) f (row t j) (e j lj)) (e i li))

-- what the answer of a pop says of the list
pub top_none : {T : Type 0} (xs : List T) → None ≡ top xs → xs ≡ []
top_none [] e = refl
top_none (x ∷ xs) e = cc

pub top_some : {T : Type 0} (x : T) (xs : List T) → Some x ≡ top xs → xs ≡ x ∷ rest xs
top_some x [] e = cc
top_some x (y ∷ ys) e = cc

-- a pop that found no item changed nothing; one that found an item left one item less
pub popped-none : {T : Type 0} (t : List (List T)) (j : ℕ) → None ≡ top (row t j) → set t j (rest (row t j)) ≡ t
popped-none t j e =
    let n = top_none (row t j) e in ap (set t j) (ap rest n ∙ sym n) ∙ set-get_or t j []

pub popped-some : {T : Type 0} (t : List (List T)) (j : ℕ) (x : T) → j < length t → Some x ≡ top (row t j) → sum_by length (set t j (rest (row t j))) + 1 ≡ sum_by length t
popped-some t j x lt e =
    let l = ap length (top_some x (row t j) e) in omega (arith, sum_by-set length t j (rest (row t j)) [] lt)
