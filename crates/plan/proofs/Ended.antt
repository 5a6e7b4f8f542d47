-- A text that spells frames ends in a line feed.
use Rattle.std.proofs.Common.{◌≡◌, ℕ, ◌-◌, List, [], ◌∷◌, ◌++◌, length, get_or, sym, ap, ◌∙◌, append_assoc, append-nil, arith}
use Rattle.std.proofs.lemmas.List.{length_push, get_or_push}
use Rattle.text.specs.Decoded.{Ended}
use Rattle.text.specs.Spelling.{digits_of, spelled, Spells}

closed : (f : List ℕ) (fs : List (List ℕ)) → (front : List ℕ) × (spelled (f ∷ fs) ≡ front ++ (10 ∷ []))
unfolding spelled
closed f [] = (digits_of f, append-nil (digits_of f ++ (10 ∷ [])))
closed f (g ∷ fs) =
    let line = digits_of f ++ (10 ∷ []) in
    let w = closed g fs in
    (line ++ w.0, ap (λ (xs : List ℕ). line ++ xs) w.1 ∙ sym (append_assoc line w.0 (10 ∷ [])))

pub ended : (text f : List ℕ) (fs : List (List ℕ)) → Spells text (f ∷ fs) → Ended text
unfolding Spells
ended text f fs e some =
    let w = closed f fs in
    let is : text ≡ w.0 ++ (10 ∷ []) = e ∙ w.1 in
    let at : length w.0 ≡ length text - 1 = omega (arith, ap length is, length_push w.0 10) in
    ap (λ (xs : List ℕ). get_or xs (length text - 1) 0) is ∙ get_or_push w.0 10 0 (length text - 1) at
