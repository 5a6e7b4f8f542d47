-- The lists of the children of a fragment, moved in front of its own.
use Rattle.std.proofs.Common.{◌≡◌, ℕ, ◌<◌, ◌≢◌, List, [], ◌∷◌, ◌++◌, length, set, sum_by, refl, ap, ◌∙◌, subst, sym, arith, length-append, length-set}
use Rattle.std.specs.List.{All}
use Rattle.std.proofs.lemmas.List.{get_or-set_other}
use Rattle.std.proofs.lemmas.List.Elements.{All-head, All-tail, All-cons}
use Rattle.std.proofs.lemmas.List.Sums.{sum_by-set}
use Rattle.lists.specs.Many.{row, EachItem}
use Rattle.lists.proofs.Many.{each-joined, each-set}
use Rattle.rows.specs.Orders.{After, gathered}

-- the list at c, moved in front of the list at k
abbrev pub joined : {T : Type 0} → List (List T) → ℕ → ℕ → List (List T)
joined t k c = set (set t c []) k (row t c ++ row t k)

pub length-joined : {T : Type 0} (t : List (List T)) (k c : ℕ) → length (joined t k c) ≡ length t
length-joined t k c = length-set (set t c []) k (row t c ++ row t k) ∙ length-set t c []

pub length-gathered : {T : Type 0} (t : List (List T)) (k : ℕ) (cs : List ℕ) → length (gathered t k cs) ≡ length t
length-gathered t k [] = refl
length-gathered t k (c ∷ cs) = length-gathered (joined t k c) k cs ∙ length-joined t k c

sum-joined : {T : Type 0} (t : List (List T)) (k c : ℕ) → k < length t → c < length t → k ≢ c → sum_by length (joined t k c) ≡ sum_by length t
sum-joined t k c kl cl ne =
    let kl' : k < length (set t c []) = omega (arith, length-set t c []) in
    let emptied = sum_by-set length t c [] [] cl in
    let moved = sum_by-set length (set t c []) k (row t c ++ row t k) [] kl' in
    let same : length (row (set t c []) k) ≡ length (row t k) = ap length (get_or-set_other t c k [] [] ne) in
    omega (arith, length-append (row t c) (row t k))

pub sum-gathered : {T : Type 0} (t : List (List T)) (k : ℕ) (cs : List ℕ) → k < length t → All (After (length t) k) cs → sum_by length (gathered t k cs) ≡ sum_by length t
sum-gathered t k [] lt a = refl
sum-gathered t k (c ∷ cs) lt a =
    let h = All-head (After (length t) k) c cs a in
    let l = length-joined t k c in
    sum-gathered (joined t k c) k cs (omega arith) (subst (λ (n : ℕ). All (After n k) cs) (sym l) (All-tail (After (length t) k) c cs a))
    ∙ sum-joined t k c lt h.1 (let below = h.0 in omega arith)

pub each-gathered : {T : Type 0} (P : T → Type 0) (t : List (List T)) (k : ℕ) (cs : List ℕ) → k < length t → All (After (length t) k) cs → EachItem (λ _. P) t → EachItem (λ _. P) (gathered t k cs)
each-gathered P t k [] lt a e = e
each-gathered P t k (c ∷ cs) lt a e =
    let h = All-head (After (length t) k) c cs a in
    let l = length-joined t k c in
    each-gathered P (joined t k c) k cs (omega arith) (subst (λ (n : ℕ). All (After n k) cs) (sym l) (All-tail (After (length t) k) c cs a))
    (each-joined (λ _. P) t k c lt h.1 (λ x p. p) e)

-- what holds of each item, and of one put in front of the list at k once those at cs were moved there
pub each-put : {T : Type 0} (P : T → Type 0) (t u : List (List T)) (k : ℕ) (cs : List ℕ) (x : T) → k < length t → All (After (length t) k) cs → u ≡ gathered t k cs → P x → EachItem (λ _. P) t → EachItem (λ _. P) (set u k (x ∷ row u k))
each-put P t u k cs x lt a e here all =
    let moved : EachItem (λ _. P) u = subst (EachItem (λ _. P)) (sym e) (each-gathered P t k cs lt a all) in
    each-set (λ _. P) u k (x ∷ row u k) moved (All-cons P x (row u k) here (moved k (omega (arith, ap length e, length-gathered t k cs))))
