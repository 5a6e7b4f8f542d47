-- Links, directions forgotten.
use Rattle.std.specs.Prelude.{◌≡◌, ℕ, zero, suc, ◌<◌, Bool, true, cond, ◌⊎◌, List, [], ◌∷◌, length, ◌==◌}
use Rattle.model.specs.Meaning.{tail_of, head_of}
use Rattle.search.specs.declared.arcs.Arc.{Arc}

-- rows, with x in front of the row k
abbrev pub add : {T : Type 0} → (ℕ → List T) → ℕ → T → ℕ → List T
add rows k x v = cond (v == k) (x ∷ rows v) (rows v)

-- link l, seen from its one end: the other is v
abbrev pub arc : ℕ → ℕ → Arc
arc l v = record { link = record { 0 = l }; to = record { 0 = v } }

-- the arcs at v of the first i links, the last one first
abbrev pub arcs_of : List (ℕ × ℕ) → ℕ → ℕ → List Arc
arcs_of links zero = λ v. []
arcs_of links (suc i) = add (add (arcs_of links i) (tail_of links i) (arc i (head_of links i))) (head_of links i) (arc i (tail_of links i))

-- the link l joins u and v
abbrev pub Joins : List (ℕ × ℕ) → ℕ → ℕ → ℕ → Type 0
Joins links l u v =
    (l < length links) × (((tail_of links l ≡ u) × (head_of links l ≡ v)) ⊎ ((tail_of links l ≡ v) × (head_of links l ≡ u)))

-- a set that holds the root, and of each link both ends or none, holds every step
abbrev pub Connected : List (ℕ × ℕ) → ℕ → ℕ → Type 0
Connected links n root =
    (S : ℕ → Bool) → S root ≡ true
    → ((l : ℕ) → l < length links → S (tail_of links l) ≡ S (head_of links l))
    → (v : ℕ) → v < n → S v ≡ true
