-- A sound plan, closed, is connected: its tree has every step.
use Rattle.std.proofs.Common.{◌≡◌, ℕ, ◌+◌, ◌<◌, Bool, true, ◌⊎◌, List, [], ◌∷◌, length, get_or, sym, ap, ◌∙◌, subst, inl, inr, arith}
use mathlib.Core.Bool.{Bool-set}
use mathlib.Core.Logic.{∥∥₁_elim}
use Rattle.std.proofs.lemmas.List.{get_or_append_left, get_or_push, length_push}
use Rattle.std.proofs.lemmas.Bool.{cases_eq}
use Rattle.model.specs.Meaning.{Graph, EndsBelow, tail_of, head_of}
use Rattle.search.specs.Joined.{Connected}
use Rattle.model.specs.Walks.{Walks, Sound, closed}

module _ (P : Graph) where
  pub more : length (closed P) ≡ length P.links + 1
  more = length_push P.links (P.last, P.first)

  pub front : (k : ℕ) → k < length P.links → get_or (closed P) k (0, 0) ≡ get_or P.links k (0, 0)
  front k lt = get_or_append_left P.links ((P.last, P.first) ∷ []) (0, 0) k lt

  pub return : (k : ℕ) → length P.links ≡ k → get_or (closed P) k (0, 0) ≡ (P.last, P.first)
  return k e = get_or_push P.links (P.last, P.first) (0, 0) k e

  pub closed_below : (n : ℕ) → P.first < n → P.last < n → EndsBelow n P.links → EndsBelow n (closed P)
  closed_below n f l h k lt = pick (cases_eq (length P.links) k)
    where
      Below : ℕ × ℕ → Type 0
      Below p = (p.0 < n) × (p.1 < n)

      pick : (length P.links ≡ k) ⊎ (length P.links ≡ k → ⊥) → Below (get_or (closed P) k (0, 0))
      pick (inl e) = subst Below (sym (return k e)) (l, f)
      pick (inr e) = let s : k < length P.links = omega (arith, more) in subst Below (sym (front k s)) (h k s)

  -- a set that takes of each link both ends or none is the same at both ends of a walk
  walk_same : (S : ℕ → Bool) → ((l : ℕ) → l < length (closed P) → S (tail_of (closed P) l) ≡ S (head_of (closed P) l)) → (u : ℕ) (ks : List ℕ) (v : ℕ) → Walks P.links u ks v → S u ≡ S v
  walk_same S h u [] v w = ap S w
  walk_same S h u (k ∷ ks) v w =
      let lt = w.0 in
      let p = front k lt in
      ap S (sym w.1) ∙ ap (λ (q : ℕ × ℕ). S q.0) (sym p) ∙ h k (omega (arith, more)) ∙ ap (λ (q : ℕ × ℕ). S q.1) p
      ∙ walk_same S h (head_of P.links k) ks v w.2

  pub connected : Sound P → Connected (closed P) P.steps P.first
  connected sound S r h v lt =
      ∥∥₁_elim (sound.between v lt) (Bool-set (S v) true) (λ p. sym (walk_same S h P.first p.0 v p.2) ∙ r)
