-- What a draft keeps with each frame.
use Rattle.std.proofs.Common.{◌≡◌, ℕ, ◌<◌, ◌≤◌, List, [], ◌∷◌, ◌++◌, map, length, sym, refl, ap, ◌∙◌, subst, ⊎_elim, arith}
use Rattle.std.proofs.lemmas.List.{length-map, length_push, map_push, get_or_append_left, get_or_push}
use Rattle.std.proofs.lemmas.Bool.{cases_lt}
use Rattle.model.specs.Meaning.{EndsBelow, pair_of}
use Rattle.model.specs.declared.numbers.Ends.{Ends}
use Rattle.plan.specs.Checks.{Begun}
use Rattle.plan.specs.Drafts.{told_by}
use Rattle.plan.specs.declared.gateway.drafts.Draft.{Draft}
use Rattle.plan.specs.declared.gateway.drafts.Draft.TheVariants.{BeforeHead, Steps, Links}

pub begun : (d : Draft) → Begun (told_by d)
begun (BeforeHead heap) = tt
begun (Steps s) =
    record { few_steps = s.few_logics; few_links = omega arith; ends_below = λ k lt. absurd (omega arith); logic_each = refl }
begun (Links l) =
    record { few_steps = l.steps.few_logics; few_links = rw length-map l.few_links; ends_below = l.ends_below; logic_each = refl }

-- one more link between steps
pair_more : (n : ℕ) (links : List (ℕ × ℕ)) (p : ℕ × ℕ) → EndsBelow n links → p.0 < n → p.1 < n → EndsBelow n (links ++ p ∷ [])
pair_more n links p old tail head k h =
    let Q : ℕ × ℕ → Type 0 = λ q. (q.0 < n) × (q.1 < n) in
    ⊎_elim
    (λ (l : k < length links). subst Q (sym (get_or_append_left links (p ∷ []) (0, 0) k l)) (old k l))
    (λ (l : length links ≤ k).
    let e : length links ≡ k = omega (arith, length_push links p) in
    subst Q (sym (get_or_push links p (0, 0) k e)) (tail, head))
    (cases_lt k (length links))

pub ends_more : (n : ℕ) (old links : List Ends) (e : Ends) → links ≡ old ++ (e ∷ []) → EndsBelow n (map pair_of old) → e.tail.0 < n → e.head.0 < n → EndsBelow n (map pair_of links)
ends_more n old links e more below tail head =
    subst (EndsBelow n) (sym (ap (map pair_of) more ∙ map_push pair_of old e)) (pair_more n (map pair_of old) (pair_of e) below tail head)
