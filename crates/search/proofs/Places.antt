-- A list with one item more at its end: its items, and what holds at each place.
use Rattle.std.proofs.Common.{◌≡◌, ℕ, ◌<◌, ◌≤◌, ◌⊎◌, List, [], ◌∷◌, ◌++◌, length, get_or, sym, refl, subst, inl, inr, arith}
use Rattle.std.proofs.lemmas.List.{get_or_append_left, length_push, get_or_push}
use Rattle.std.proofs.lemmas.Bool.{cases_lt}

abbrev pub In : {T : Type 0} → T → List T → Type 0
In a [] = ⊥
In a (x ∷ xs) = (a ≡ x) ⊎ In a xs

pub in_push : {T : Type 0} (a : T) (xs : List T) (x : T) → In a (xs ++ x ∷ []) → In a xs ⊎ (a ≡ x)
in_push a [] x (inl e) = inr e
in_push a [] x (inr h) = absurd h
in_push a (y ∷ ys) x (inl e) = inl (inl e)
in_push {T = T} a (y ∷ ys) x (inr h) = pick (in_push a ys x h)
  where
    pick : In a ys ⊎ (a ≡ x) → In a (y ∷ ys) ⊎ (a ≡ x)
    pick (inl h) = inl (inr h)
    pick (inr e) = inr e

pub push_keeps : {T : Type 0} (a : T) (xs : List T) (x : T) → In a xs → In a (xs ++ x ∷ [])
push_keeps a (y ∷ ys) x (inl e) = inl e
push_keeps a (y ∷ ys) x (inr h) = inr (push_keeps a ys x h)
push_keeps a [] x h = absurd h

pub push_has : {T : Type 0} (xs : List T) (x : T) → In x (xs ++ x ∷ [])
push_has [] x = inl refl
push_has (y ∷ ys) x = inr (push_has ys x)

-- what holds at each place, and of the new item at the last, holds at each place of the longer list
pub push_each : {T : Type 0} (xs : List T) (x d : T) (P : ℕ → T → Type 0) → ((i : ℕ) → i < length xs → P i (get_or xs i d)) → P (length xs) x → (i : ℕ) → i < length (xs ++ x ∷ []) → P i (get_or (xs ++ x ∷ []) i d)
push_each xs x d P old new i lt = go (cases_lt i (length xs))
  where
    go : (i < length xs) ⊎ (length xs ≤ i) → P i (get_or (xs ++ x ∷ []) i d)
    go (inl p) = subst (P i) (sym (get_or_append_left xs (x ∷ []) d i p)) (old i p)
    go (inr p) =
        let e : length xs ≡ i = omega (arith, length_push xs x) in
        subst (P i) (sym (get_or_push xs x d i e)) (subst (λ (j : ℕ). P j x) e new)
