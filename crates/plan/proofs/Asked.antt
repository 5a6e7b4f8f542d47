-- What a plan answers to the numbers in turn.
use Rattle.std.proofs.Common.{◌≡◌, ℕ, suc, ◌<◌, ◌≤◌, true, false, cond, ltb, ◌⊎◌, List, [], ◌∷◌, map, length, get_or, Some, None, Option, sym, refl, ap, ◌∙◌, subst, inl, inr, ⊎_elim, arith}
use mathlib.Core.List.{map-map}
use Rattle.std.proofs.lemmas.Bool.{cases_Bool, cases_lt, cond-true, cond-false, ltb-true, ltb-false}
use Rattle.std.proofs.lemmas.List.{length-map, map-id}
use Rattle.std.proofs.lemmas.Option.{none-some, same_Some, slice_get-map, slice_get-get_or, slice_get_past, slice_get_cases}
use Rattle.std.specs.List.{slice_get}
use Rattle.std.specs.Option.{option_map}
use Rattle.model.specs.Meaning.{Meaning, pair_of, ends_from, ends_of, logic_of}
use Rattle.model.specs.declared.numbers.Ends.{Ends}
use Rattle.model.specs.declared.numbers.Logic.{Logic}
use Rattle.model.specs.declared.numbers.Logic.TheVariants.{One}

tested : {A B : Type 0} (f : A → B) (xs : List A) (k : ℕ) (d : A) → cond (ltb k (length xs)) (Some (f (get_or xs k d))) None ≡ slice_get (map f xs) k
tested f xs k d = pick (cases_Bool (ltb k (length xs)))
  where
    pick : (ltb k (length xs) ≡ true) ⊎ (ltb k (length xs) ≡ false) → cond (ltb k (length xs)) (Some (f (get_or xs k d))) None ≡ slice_get (map f xs) k
    pick (inl t) =
        cond-true _ _ _ t ∙ ap (option_map f) (sym (slice_get-get_or xs k d (ltb-true k _ t))) ∙ sym (slice_get-map f xs k)
    pick (inr t) = cond-false _ _ _ t ∙ sym (slice_get_past (map f xs) k (omega (arith, length-map xs f, ltb-false k _ t)))

-- a list is another if its items are, and it has no more
same_items : {A : Type 0} (xs ys : List A) → ((k : ℕ) → k ≤ length xs → slice_get xs k ≡ slice_get ys k) → xs ≡ ys
same_items [] [] e = refl
same_items [] (y ∷ ys) e = absurd (none-some y (e 0 (omega arith)))
same_items (x ∷ xs) [] e = absurd (none-some x (sym (e 0 (omega arith))))
same_items {A} (x ∷ xs) (y ∷ ys) e =
    ap (λ (z : A). z ∷ xs) (same_Some x y (e 0 (omega arith))) ∙ ap (λ (zs : List A). y ∷ zs) (same_items xs ys (λ k lt. e (suc k) (omega arith)))

-- what is copied where each number is asked for
pub links_copied : (μ : Meaning) (links : List Ends) → ((k : ℕ) → k ≤ length links → slice_get links k ≡ ends_of μ k) → map pair_of links ≡ μ.graph.links
links_copied μ links told =
    ap (map pair_of) (same_items links (map ends_from μ.graph.links) (λ k le. told k le ∙ tested ends_from μ.graph.links k (0, 0)))
    ∙ map-map pair_of ends_from μ.graph.links ∙ map-id μ.graph.links

pub logics_copied : (μ : Meaning) (logics : List Logic) → ((k : ℕ) → k ≤ length logics → slice_get logics k ≡ logic_of μ k) → logics ≡ μ.logics
logics_copied μ logics told = same_items logics (map (λ (l : Logic). l) μ.logics) (λ k le. told k le ∙ tested (λ l. l) μ.logics k One) ∙ map-id μ.logics

-- numbers that have answers, and then the first that has none
pub all_told : {A : Type 0} (Q : ℕ → Option A → Type 0) (xs : List A) (n : ℕ) → length xs ≡ n → ((k : ℕ) → k < n → Q k (slice_get xs k)) → Q n None → (k : ℕ) → k ≤ length xs → Q k (slice_get xs k)
all_told {A} Q xs n size some none k le =
    ⊎_elim (λ (lt : k < n). some k lt)
    (λ (ge : n ≤ k).
    let same : n ≡ k = omega arith in
    subst (λ (i : ℕ). Q i (slice_get xs i)) same (subst (λ (o : Option A). Q n o) (sym (slice_get_past xs n (omega arith))) none))
    (cases_lt k n)

-- no number that has none comes before them
pub none_before : {A : Type 0} (Q : ℕ → Option A → Type 0) (xs : List A) (n m : ℕ) → length xs ≡ m → n < m → ((k : ℕ) → k < m → Q k (slice_get xs k)) → ((o : Option A) → Q n o → o ≡ None) → ⊥
none_before Q xs n m size lt some none =
    ⊎_elim (λ is. none-some is.0 (sym (none _ (some n lt)) ∙ is.2)) (λ past. omega (arith, past.0)) (slice_get_cases xs n).1
