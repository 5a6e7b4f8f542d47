-- What the parts of the test for soundness say together. The code reads es', which are es.
use Rattle.std.proofs.Common.{◌≡◌, ℕ, ◌<◌, Bool, true, false, List, map, length, get_or, sym, ◌∙◌, subst, arith}
use mathlib.Core.HLevel.{⊥_prop}
use mathlib.Core.Logic.{∥∥₁_elim}
use Rattle.std.specs.List.{AllWithin, HoldsAt}
use Rattle.std.proofs.lemmas.List.{length-map}
use Rattle.std.proofs.lemmas.Bool.{true≢false}
use Rattle.model.specs.declared.numbers.Ends.{Ends}
use Rattle.model.specs.declared.numbers.LinkNo.{LinkNo}
use Rattle.model.specs.Meaning.{EndsBelow, pair_of, ends_from, tail_of}
use Rattle.plan.specs.Makes.{swapped}
use Rattle.model.specs.Walks.{Walks}
use Rattle.search.specs.Walks.{LeadsTo}
use Rattle.search.specs.Searched.{Searched, link_at}
use Rattle.search.proofs.Rowing.{ends_at}
use Rattle.search.proofs.Turned.{walks_back, walks_turned}

-- no link passes, and i is the first that does: of the links as they are read, and of their pairs
pub none_of : (P : ℕ × ℕ → Type 0) (es es' : List Ends) → es' ≡ es → AllWithin (λ e. P (pair_of e) → ⊥) es' 0 (length es') → (k : ℕ) → k < length (map pair_of es) → P (get_or (map pair_of es) k (0, 0)) → ⊥
none_of P es es' e h k lt p =
    let h' = subst (λ (t : List Ends). AllWithin (λ e. P (pair_of e) → ⊥) t 0 (length t)) e h in
    h' k (ends_from (0, 0)) (omega arith) (omega (arith, length-map es pair_of)) (subst P (ends_at es k) p)

pub found_of : (P : ℕ × ℕ → Type 0) (es es' : List Ends) (i : ℕ) → es' ≡ es → (i < length es') × HoldsAt (λ e. P (pair_of e)) es' i × AllWithin (λ e. P (pair_of e) → ⊥) es' 0 i → (i < length (map pair_of es)) × P (get_or (map pair_of es) i (0, 0)) × ((k : ℕ) → k < i → P (get_or (map pair_of es) k (0, 0)) → ⊥)
found_of P es es' i e h =
    let h' = subst (λ (t : List Ends). (i < length t) × HoldsAt (λ e. P (pair_of e)) t i × AllWithin (λ e. P (pair_of e) → ⊥) t 0 i) e h in
    let lt = h'.0 in (
      omega (arith, length-map es pair_of),
      subst P (sym (ends_at es i)) (h'.1 (ends_from (0, 0))),
      λ k lk p. h'.2 k (ends_from (0, 0)) (omega arith) lk (subst P (ends_at es k) p),
    )

abbrev AllTrue : List Bool → ℕ → Type 0
AllTrue fs n = (k : ℕ) → k < n → get_or fs k false ≡ true

module _ (G : List (ℕ × ℕ)) (n u : ℕ) (os : List LinkNo) (fs : List Bool) (w : Searched G n u os fs) where
  -- a step is missed: no walk leads there, and to each smaller one some does
  pub missed : (s : ℕ) → (s < length fs) × (get_or fs s false ≡ false) × AllTrue fs s → (s < n) × (LeadsTo G u s → ⊥) × ((v : ℕ) → v < s → LeadsTo G u v)
  missed s m =
      let lt = m.0 in (
        omega (arith, w.long),
        λ p. ∥∥₁_elim p ⊥_prop (λ q. true≢false (sym (w.complete s q.0 q.1) ∙ m.1)),
        λ v lv. ∣ w.walked v (m.2 v lv) ∣₁,
      )

  -- none is missed: some walk leads to each step, and every link stands in the order
  pub none_missed : AllTrue fs (length fs) → (v : ℕ) → v < n → LeadsTo G u v
  none_missed h v lt = ∣ w.walked v (h v (omega (arith, w.long))) ∣₁

  pub all_listed : AllTrue fs (length fs) → EndsBelow n G → (k : ℕ) → k < length G → (i : ℕ) × (i < length os) × (link_at os i ≡ k)
  all_listed h below k lt = let b = (below k lt).0 in w.whole k lt (h (tail_of G k) (omega (arith, w.long)))

-- the way back
pub leads_back : (G : List (ℕ × ℕ)) (u v : ℕ) → LeadsTo (map swapped G) u v → LeadsTo G v u
leads_back G u v p = ∥∥₁_elim p squash₁ (λ q. ∣ walks_back G u q.0 v q.1 ∣₁)

pub leads_turned : (G : List (ℕ × ℕ)) (u v : ℕ) → LeadsTo G u v → LeadsTo (map swapped G) v u
leads_turned G u v p = ∥∥₁_elim p squash₁ (λ q. ∣ walks_turned G u q.0 v q.1 ∣₁)

pub missed_back : (G : List (ℕ × ℕ)) (n u s : ℕ) → (s < n) × (LeadsTo (map swapped G) u s → ⊥) × ((v : ℕ) → v < s → LeadsTo (map swapped G) u v) → (s < n) × (LeadsTo G s u → ⊥) × ((v : ℕ) → v < s → LeadsTo G v u)
missed_back G n u s m = (m.0, λ p. m.1 (leads_turned G s u p), λ v lv. leads_back G u v (m.2 v lv))

-- each step lies on a walk from u to v
pub both : (G : List (ℕ × ℕ)) (n u v : ℕ) → ((s : ℕ) → s < n → LeadsTo G u s) → ((s : ℕ) → s < n → LeadsTo (map swapped G) v s) → (s : ℕ) → s < n → ∥ ((ks : List ℕ) × (js : List ℕ) × Walks G u ks s × Walks G s js v) ∥₁
both G n u v to back s lt =
    ∥∥₁_elim (to s lt) squash₁ (λ p. ∥∥₁_elim (leads_back G v s (back s lt)) squash₁ (λ q. ∣ (p.0, q.0, p.1, q.1) ∣₁))
