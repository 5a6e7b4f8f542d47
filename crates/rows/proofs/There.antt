-- The values that are there, one after the other.
use Rattle.std.proofs.Common.{◌≡◌, ℕ, zero, suc, ◌<◌, ◌≤◌, Bool, true, false, ◌⊎◌, List, [], ◌∷◌, length, get_or, set, IfSome, Some, None, MatchBool, Option, Bor, sym, refl, ap, ◌∙◌, subst, inl, inr, arith, length-set}
use Rattle.std.specs.List.{All, flat_map}
use Rattle.std.specs.Option.{option_copied, option_to_list}
use Rattle.std.specs.Iterator.Adapters.{option_iter_item, option_iter_done, option_iter_steps}
use Rattle.std.proofs.lemmas.Bool.{cases_eq, cases_lt}
use Rattle.std.proofs.lemmas.Iterator.{YieldsList}
use Rattle.std.proofs.lemmas.List.{get_or-set_same, get_or-set_other, get_or_past}
use Rattle.std.proofs.lemmas.List.Elements.{All-nil, All-cons}
use Rattle.theory.specs.Each.{EachSome}

-- a reference to what is there comes, and nothing after it
first : {A : Type 0} (s t : _) (r : Option (Bor A)) → option_iter_done s ≡ false → option_iter_steps s r t → option_copied r ≡ option_iter_item s
first s t r d h = subst (λ (b : Bool). MatchBool b (r ≡ None) (option_copied r ≡ option_iter_item s)) d h.1

later : {A : Type 0} (s t : _) (r : Option (Bor A)) → option_iter_done s ≡ true → option_iter_steps s r t → r ≡ None
later s t r d h = subst (λ (b : Bool). MatchBool b (r ≡ None) (option_copied r ≡ option_iter_item s)) d h.1

pub YieldsList-from_option : {A : Type 0} {s : _} (o : Option A) → option_iter_item s ≡ o → option_iter_done s ≡ false → YieldsList option_iter_steps (λ y. y.now) s (option_to_list o)
YieldsList-from_option {s = s} None e d = record { runs = λ x t h. let m = first s t (Some x) d h ∙ e in cc }
YieldsList-from_option {A = A} {s = s} (Some a) e d =
    record {
      runs = (
        λ t h. let m = first {A = A} s t None d h ∙ e in cc,
        λ x t h. (let m = first s t (Some x) d h ∙ e in cc, λ y u i. let m = later t u (Some y) h.0 i in cc),
      );
    }

pub all_there : {X : Type 0} (P : X → Type 0) (xs : List (Option X)) → EachSome P xs → All P (flat_map option_to_list xs)
all_there P [] all = All-nil P
all_there P (None ∷ xs) all = all_there P xs (λ k x e. all (suc k) x e)
all_there P (Some x ∷ xs) all = All-cons P x (flat_map option_to_list xs) (all zero x refl) (all_there P xs (λ k y e. all (suc k) y e))

-- what holds of each value that is there holds of the one at k, if there is one
pub some_there : {X : Type 0} (P : X → Type 0) (xs : List (Option X)) (k : ℕ) → EachSome P xs → IfSome (get_or xs k None) P
some_there {X = X} P xs k all = at (get_or xs k None) refl
  where
    at : (o : Option X) → get_or xs k None ≡ o → IfSome o P
    at None e = tt
    at (Some x) e = all k x e

-- a value put at i, where P may go by the place
pub each_some_set_at : {X : Type 0} (P : ℕ → X → Type 0) (xs : List (Option X)) (i : ℕ) (x : X) → ((k : ℕ) (y : X) → get_or xs k None ≡ Some y → P k y) → P i x → (k : ℕ) (y : X) → get_or (set xs i (Some x)) k None ≡ Some y → P k y
each_some_set_at P xs i x all p k y e = go (cases_lt i (length xs)) (cases_eq k i)
  where
    go : (i < length xs) ⊎ (length xs ≤ i) → (k ≡ i) ⊎ (k ≡ i → ⊥) → P k y
    go w (inr ne) = all k y (sym (get_or-set_other xs i k (Some x) None ne) ∙ e)
    go (inl lt) (inl q) =
        let same : Some x ≡ Some y = sym (ap (λ (j : ℕ). get_or (set xs i (Some x)) j None) q ∙ get_or-set_same xs i (Some x) None lt) ∙ e in
        let z : x ≡ y = cc in
        subst (λ (j : ℕ). P j y) (sym q) (subst (P i) z p)
    go (inr h) (inl q) =
        let past : None ≡ Some y = sym (get_or_past (set xs i (Some x)) k None (omega (arith, length-set xs i (Some x)))) ∙ e in
        cc
