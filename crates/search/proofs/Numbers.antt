-- What it keeps to give a step its number.
use Rattle.std.proofs.Common.{◌≡◌, ℕ, zero, suc, ◌+◌, ◌<◌, ◌≤◌, Bool, true, false, cond, ◌≢◌, ◌⊎◌, List, [], ◌∷◌, ◌++◌, length, get_or, set, replicate, is_some, Some, None, Option, sym, refl, ap, ◌∙◌, inl, inr, arith, length-set}
use Rattle.std.proofs.lemmas.List.{get_or_append_left, get_or-set_same, get_or-set_other, get_or_past, length_push, get_or_push, get_or-replicate, length-replicate}
use Rattle.std.proofs.lemmas.Bool.{cases_eq, cases_lt}
use Rattle.std.proofs.lemmas.Option.{none-some, same_Some}
use Rattle.search.specs.declared.trees.Visit.{Visit}
use Rattle.search.proofs.Places.{push_each}
use Rattle.search.specs.Numbered.{none, Inside, Back, Known, Forth, Above, nones}

-- what every tree keeps
pub record Numbering (ns : List (Option ℕ)) (vs : List Visit) : Type 0 where
  pub inside : Inside ns vs
  pub back : Back ns vs
  pub known : Known ns vs
  pub forth : Forth ns vs
  pub above : Above vs

pub all_new : (ns : List (Option ℕ)) (vs : List Visit) → vs ≡ [] → ((v : ℕ) → get_or ns v None ≡ None) → Numbering ns vs
all_new ns vs e f =
    let z : length vs ≡ 0 = ap length e in
    record {
      inside = λ k h. absurd (omega arith);
      back = λ k h. absurd (omega arith);
      known = λ v k q. absurd (none-some k (sym (f v) ∙ q));
      forth = λ v k q. absurd (none-some k (sym (f v) ∙ q));
      above = λ k p h. absurd (omega arith);
    }

pub all_none : (ns : List (Option ℕ)) (n : ℕ) → ns ≡ replicate n None → (v : ℕ) → get_or ns v None ≡ None
all_none ns n e v = go (cases_lt v (length ns))
  where
    go : (v < length ns) ⊎ (length ns ≤ v) → get_or ns v None ≡ None
    go (inl p) =
        let ll = ap length e ∙ length-replicate n None in
        ap (λ (t : List (Option ℕ)). get_or t v None) e ∙ get_or-replicate n v None None (omega (arith, ll))
    go (inr p) = get_or_past ns v None p

pub all_visit : (ns : List (Option ℕ)) (vs : List Visit) (V : Visit) (k : ℕ) → k ≡ length vs → V.step.0 < length ns → get_or ns V.step.0 None ≡ None → (0 < length vs → V.parent < length vs) → Numbering ns vs → Numbering (set ns V.step.0 (Some k)) (vs ++ V ∷ [])
all_visit ns vs V k ek ln fr pa a =
    record { inside = inside; back = back; known = known; forth = forth; above = above }
  where
    number_is : (v i : ℕ) → v ≡ V.step.0 → get_or (set ns V.step.0 (Some k)) v None ≡ Some i → k ≡ i
    number_is v i p q =
        same_Some k i (sym (ap (λ (t : ℕ). get_or (set ns V.step.0 (Some k)) t None) p ∙ get_or-set_same ns V.step.0 (Some k) None ln) ∙ q)

    inside : Inside (set ns V.step.0 (Some k)) (vs ++ V ∷ [])
    inside =
        push_each vs V none (λ i v. v.step.0 < length (set ns V.step.0 (Some k)))
        (λ i p. let q = a.inside i p in omega (arith, length-set ns V.step.0 (Some k))) (omega (arith, length-set ns V.step.0 (Some k)))

    back : Back (set ns V.step.0 (Some k)) (vs ++ V ∷ [])
    back =
        push_each vs V none (λ i v. get_or (set ns V.step.0 (Some k)) v.step.0 None ≡ Some i)
        (λ i p. get_or-set_other ns V.step.0 (get_or vs i none).step.0 (Some k) None (other i p) ∙ a.back i p)
        (get_or-set_same ns V.step.0 (Some k) None ln ∙ ap Some ek)
      where
        other : (i : ℕ) → i < length vs → (get_or vs i none).step.0 ≢ V.step.0
        other i p q = none-some i (sym fr ∙ ap (λ (t : ℕ). get_or ns t None) (sym q) ∙ a.back i p)

    known : Known (set ns V.step.0 (Some k)) (vs ++ V ∷ [])
    known v i q = go (cases_eq v V.step.0)
      where
        go : (v ≡ V.step.0) ⊎ (v ≡ V.step.0 → ⊥) → i < length (vs ++ V ∷ [])
        go (inl p) =
            let ki = number_is v i p q in
            omega (arith, length_push vs V)
        go (inr p) =
            let r = a.known v i (sym (get_or-set_other ns V.step.0 v (Some k) None p) ∙ q) in
            omega (arith, length_push vs V)

    forth : Forth (set ns V.step.0 (Some k)) (vs ++ V ∷ [])
    forth v i q = go (cases_eq v V.step.0)
      where
        go : (v ≡ V.step.0) ⊎ (v ≡ V.step.0 → ⊥) → (get_or (vs ++ V ∷ []) i none).step.0 ≡ v
        go (inl p) =
            let ki = number_is v i p q in
            ap (λ (t : Visit). t.step.0) (get_or_push vs V none i (sym ek ∙ ki)) ∙ sym p
        go (inr p) =
            let q' : get_or ns v None ≡ Some i = sym (get_or-set_other ns V.step.0 v (Some k) None p) ∙ q in
            ap (λ (t : Visit). t.step.0) (get_or_append_left vs (V ∷ []) none i (a.known v i q')) ∙ a.forth v i q'

    above : Above (vs ++ V ∷ [])
    above i z h = push_each vs V none (λ i v. 0 < i → v.parent < i) (λ i p z. a.above i z p) pa i h z

pub none_is : (o : Option ℕ) → is_some o ≡ false → o ≡ None
none_is None e = refl
none_is (Some x) e = cc

pub nones_replicate : (n : ℕ) → nones (replicate n None) ≡ n
nones_replicate zero = refl
nones_replicate (suc n) = let r = nones_replicate n in omega arith

pub nones_set : (ns : List (Option ℕ)) (v k : ℕ) → v < length ns → get_or ns v None ≡ None → nones (set ns v (Some k)) + 1 ≡ nones ns
nones_set [] v k l e = absurd (omega arith)
nones_set (o ∷ os) zero k l e = let s : ◌≡◌ {A = ℕ} (cond (is_some o) 0 1) 1 = ap (λ (t : Option ℕ). cond {A = ℕ} (is_some t) 0 1) e in omega arith
nones_set (o ∷ os) (suc v) k l e = let r = nones_set os v k (omega arith) e in omega arith

pub nones_some : (ns : List (Option ℕ)) → ((v : ℕ) → v < length ns → is_some (get_or ns v None) ≡ true) → nones ns ≡ 0
nones_some [] h = refl
nones_some (o ∷ os) h =
    let s : ◌≡◌ {A = ℕ} (cond (is_some o) 0 1) 0 = ap (λ (b : Bool). cond {A = ℕ} b 0 1) (h 0 (omega arith)) in
    let r = nones_some os (λ v l. h (suc v) (omega arith)) in
    omega arith

pub all_counted : (ns : List (Option ℕ)) (vs : List Visit) (n : ℕ) → length ns ≡ n → length vs + nones ns ≡ length ns → ((v : ℕ) → v < n → is_some (get_or ns v None) ≡ true) → length vs ≡ n
all_counted ns vs n e f h = let z = nones_some ns (λ v l. h v (omega arith)) in omega arith

pub some_of : (o : Option ℕ) → is_some o ≡ true → (k : ℕ) × (o ≡ Some k)
some_of (Some k) e = (k, refl)
some_of None e = cc

-- where no step is left without a number, each has one
pub none_left : (ns : List (Option ℕ)) → nones ns ≡ 0 → (v : ℕ) → v < length ns → is_some (get_or ns v None) ≡ true
none_left [] z v lt = absurd (omega arith)
none_left (None ∷ os) z v lt = absurd (omega arith)
none_left (Some k ∷ os) z zero lt = refl
none_left (Some k ∷ os) z (suc v) lt = none_left os (omega arith) v (omega arith)
