-- The links the other way round, and the walks over them.
use Rattle.std.proofs.Common.{◌≡◌, ℕ, ◌<◌, List, [], ◌∷◌, ◌++◌, map, length, sym, refl, ap, ◌∙◌, subst, arith}
use Rattle.std.proofs.lemmas.List.{length-map}
use Rattle.model.specs.declared.numbers.Ends.{Ends}
use Rattle.model.specs.Meaning.{tail_of, head_of, EndsBelow, pair_of}
use Rattle.plan.specs.Makes.{swapped, get_or_swapped}
use Rattle.model.specs.Walks.{Walks}
use Rattle.search.specs.Walks.{turned_ends}

pub turned_pairs : (es : List Ends) → map pair_of (map turned_ends es) ≡ map swapped (map pair_of es)
turned_pairs [] = refl
turned_pairs (e ∷ es) = ap (λ (t : List (ℕ × ℕ)). swapped (pair_of e) ∷ t) (turned_pairs es)

-- ts are the links es, turned, as the code reads both
pub turned_of : (es es' ts ts' : List Ends) → es' ≡ es → ts ≡ map turned_ends es' → ts' ≡ ts → map pair_of ts' ≡ map swapped (map pair_of es)
turned_of es es' ts ts' e t e' =
    ap (λ (y : List Ends). map pair_of y) (e' ∙ t ∙ ap (λ (y : List Ends). map turned_ends y) e) ∙ turned_pairs es

tail_turned : (G : List (ℕ × ℕ)) (k : ℕ) → tail_of (map swapped G) k ≡ head_of G k
tail_turned G k = ap (λ (p : ℕ × ℕ). p.0) (get_or_swapped G k)

head_turned : (G : List (ℕ × ℕ)) (k : ℕ) → head_of (map swapped G) k ≡ tail_of G k
head_turned G k = ap (λ (p : ℕ × ℕ). p.1) (get_or_swapped G k)

pub turned_below : (G : List (ℕ × ℕ)) (n : ℕ) → EndsBelow n G → EndsBelow n (map swapped G)
turned_below G n h k lt =
    let w = h k (omega (arith, length-map G swapped)) in
    let a = w.0 in
    let b = w.1 in
    (omega (arith, tail_turned G k), omega (arith, head_turned G k))

walks_append : (G : List (ℕ × ℕ)) (u : ℕ) (ks : List ℕ) (v : ℕ) (js : List ℕ) (w : ℕ) → Walks G u ks v → Walks G v js w → Walks G u (ks ++ js) w
walks_append G u [] v js w p q = subst (λ (t : ℕ). Walks G t js w) (sym p) q
walks_append G u (k ∷ ks) v js w p q = (p.0, p.1, walks_append G (head_of G k) ks v js w p.2 q)

-- a walk over the turned links, walked back
pub walks_back : (G : List (ℕ × ℕ)) (u : ℕ) (ks : List ℕ) (v : ℕ) → Walks (map swapped G) u ks v → (js : List ℕ) × Walks G v js u
walks_back G u [] v w = ([], sym w)
walks_back G u (k ∷ ks) v w =
    let p = walks_back G (head_of (map swapped G) k) ks v w.2 in
    let lt : k < length G = omega (arith, w.0, length-map G swapped) in (
      p.0 ++ k ∷ [],
      walks_append G v p.0 (head_of (map swapped G) k) (k ∷ []) u p.1 (lt, sym (head_turned G k), sym (tail_turned G k) ∙ w.1),
    )

pub walks_turned : (G : List (ℕ × ℕ)) (u : ℕ) (ks : List ℕ) (v : ℕ) → Walks G u ks v → (js : List ℕ) × Walks (map swapped G) v js u
walks_turned G u [] v w = ([], sym w)
walks_turned G u (k ∷ ks) v w =
    let p = walks_turned G (head_of G k) ks v w.2 in
    let lt : k < length (map swapped G) = omega (arith, w.0, length-map G swapped) in (
      p.0 ++ k ∷ [],
      walks_append (map swapped G) v p.0 (head_of G k) (k ∷ []) u p.1 (lt, tail_turned G k, head_turned G k ∙ w.1),
    )
