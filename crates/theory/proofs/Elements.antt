-- What holds of each element, where a list is read, made, pushed to or written.
use Rattle.std.proofs.Common.{◌≡◌, ℕ, ◌<◌, Bool, cond, List, [], ◌∷◌, ◌++◌, length, get_or, set, replicate, Some, None, Option, unwrap_or, sym, refl, ap, ◌∙◌, subst, arith, length-set}
use Rattle.std.proofs.lemmas.List.Elements.{All-get_or, All-from_get_or, All-set, All-replicate}
use Rattle.std.proofs.lemmas.List.{get_or_append_left, get_or-set_same, get_or-set_other, get_or_past, length_push, get_or_push, get_or-replicate, length-replicate, get_or_read}
use Rattle.std.proofs.lemmas.Option.{none-some}
use Rattle.std.proofs.lemmas.Bool.{cases_eq, cases_lt, cond_both}
use Rattle.theory.specs.Each.{Each, EachSome}

-- an element x that was read at k, where P may go by the place
pub each_read_at :
    {X : Type 0} (P : ℕ → X → Type 0) (d : X) (xs : List X) (k : ℕ) (x : X) → ((j : ℕ) → j < length xs → P j (get_or xs j d)) → k < length xs →
    x ≡ get_or xs k x → P k x
each_read_at P d xs k x all lt e = subst (P k) (sym (get_or_read xs k x lt e d)) (all k lt)

pub each_read : {X : Type 0} (P : X → Type 0) (d : X) (xs : List X) (k : ℕ) (x : X) → Each P d xs → k < length xs → x ≡ get_or xs k x → P x
each_read P = each_read_at (λ _. P)

-- one element more, where P may go by the place
pub each_push_at :
    {X : Type 0} (P : ℕ → X → Type 0) (d : X) (xs : List X) (x : X) → ((k : ℕ) → k < length xs → P k (get_or xs k d)) → P (length xs) x →
    (k : ℕ) → k < length (xs ++ x ∷ []) → P k (get_or (xs ++ x ∷ []) k d)
each_push_at P d xs x all p k lt =
    let old = get_or_append_left xs (x ∷ []) d k in
    let new = get_or_push xs x d k in
    let n = length_push xs x in
    let here = all k in
    grind (arith, cases_lt k (length xs))

pub each_push : {X : Type 0} (P : X → Type 0) (d : X) (xs : List X) (x : X) → Each P d xs → P x → Each P d (xs ++ x ∷ [])
each_push P = each_push_at (λ _. P)

-- after a push, whether it found memory or not
pub each_pushed :
    {X : Type 0} (P : X → Type 0) (d : X) (xs ys : List X) (x : X) (b : Bool) → ys ≡ cond b (xs ++ x ∷ []) xs → Each P d xs → P x → Each P d ys
each_pushed P d xs ys x b e all p = subst (Each P d) (sym e) (cond_both b (xs ++ x ∷ []) xs (Each P d) (λ _. each_push P d xs x all p) (λ _. all))

pub each_set : {X : Type 0} (P : X → Type 0) (d : X) (xs : List X) (i : ℕ) (x : X) → Each P d xs → P x → Each P d (set xs i x)
each_set P d xs i x all p k lt = All-get_or P (set xs i x) k d lt (All-set P xs i x p (All-from_get_or P xs d all))

pub each_replicate : {X : Type 0} (P : X → Type 0) (d : X) (n : ℕ) (x : X) (xs : List X) → xs ≡ replicate n x → P x → Each P d xs
each_replicate P d n x xs e p = subst (Each P d) (sym e) (λ k lt. All-get_or P (replicate n x) k d lt (All-replicate P n x p))

pub each_weaken : {X : Type 0} (P Q : X → Type 0) (d : X) (xs : List X) → ((x : X) → P x → Q x) → Each P d xs → Each Q d xs
each_weaken P Q d xs f all k lt = f (get_or xs k d) (all k lt)

pub each_some_read :
    {X : Type 0} (P : X → Type 0) (xs : List (Option X)) (k : ℕ) (o : Option X) (x : X) → EachSome P xs → k < length xs → o ≡ get_or xs k o → o ≡ Some x → P x
each_some_read P xs k o x all lt e is = all k x (sym (get_or_read xs k o lt e None) ∙ is)

pub each_some_set : {X : Type 0} (P : X → Type 0) (xs : List (Option X)) (i : ℕ) (x : X) → EachSome P xs → P x → EachSome P (set xs i (Some x))
each_some_set P xs i x all p k y e =
    let here = get_or-set_same xs i (Some x) None in
    let other = get_or-set_other xs i k (Some x) None in
    let past = get_or_past (set xs i (Some x)) k None in
    let n = length-set xs i (Some x) in
    let old = all k y in
    grind (arith, cases_eq k i, cases_lt k (length xs))

-- past its end too a list of equal elements gives the element
pub get_or_replicate_same : {A : Type 0} (n k : ℕ) (a : A) → get_or (replicate n a) k a ≡ a
get_or_replicate_same {A = A} n k a =
    let here = get_or-replicate n k a a in
    let past = get_or_past (replicate n a) k a in
    let l = length-replicate n a in
    grind (arith, cases_lt k n)

pub each_some_none : {X : Type 0} (P : X → Type 0) (xs : List (Option X)) (n : ℕ) → xs ≡ replicate n None → EachSome P xs
each_some_none P xs n e k x is = absurd (none-some x (sym (ap (λ (t : List _). get_or t k None) e ∙ get_or_replicate_same n k None) ∙ is))

pub each_some_weaken : {X : Type 0} (P Q : X → Type 0) (xs : List (Option X)) → ((x : X) → P x → Q x) → EachSome P xs → EachSome Q xs
each_some_weaken P Q xs f all k x e = f x (all k x e)

-- what was read, or another value if nothing was there
pub each_some_or :
    {X : Type 0} (P : X → Type 0) (xs : List (Option X)) (k : ℕ) (o : Option X) (y r : X) → EachSome P xs → k < length xs → o ≡ get_or xs k o → P y →
    r ≡ unwrap_or o y → P r
each_some_or P xs k None y r all lt e p is = subst P (sym is) p
each_some_or P xs k (Some x) y r all lt e p is = subst P (sym is) (each_some_read P xs k (Some x) x all lt e refl)

pub each_nil : {X : Type 0} (P : X → Type 0) (d : X) (xs : List X) → xs ≡ [] → Each P d xs
each_nil P d xs e k lt = let l : length xs ≡ 0 = ap length e in absurd (omega arith)
