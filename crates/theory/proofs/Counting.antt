-- Counting the numbers that pass a test.
use Rattle.std.proofs.Common.{◌≡◌, ℕ, zero, suc, ◌<◌, ◌≤◌, Bool, true, arith}
use Rattle.std.proofs.lemmas.Bool.{cases_eq}
use Rattle.model.specs.Parts.{how_many, Exactly}

-- a test that passes no more has no larger how_many
pub how_many_le : (t u : ℕ → Bool) (n : ℕ) → ((s : ℕ) → s < n → t s ≡ true → u s ≡ true) → how_many t n ≤ how_many u n
how_many_le t u zero h = omega arith
how_many_le t u (suc n) h =
    let rest = how_many_le t u n (λ s l. h s (omega arith)) in
    let top = h n (omega arith) in
    grind arith

-- and if it has no smaller one, it passes no less
pub how_many_all :
    (t u : ℕ → Bool) (n : ℕ) → ((s : ℕ) → s < n → t s ≡ true → u s ≡ true) → how_many u n ≤ how_many t n →
    (s : ℕ) → s < n → u s ≡ true → t s ≡ true
how_many_all t u zero h le s l e = absurd (omega arith)
how_many_all t u (suc n) h le s l e =
    let below : (k : ℕ) → k < n → t k ≡ true → u k ≡ true = λ k l. h k (omega arith) in
    let rest = how_many_le t u n below in
    let top = h n (omega arith) in
    let more : how_many u n ≤ how_many t n → s < n → t s ≡ true = λ le' l'. how_many_all t u n below le' s l' e in
    grind (arith, cases_eq s n)

module _ (n j k : ℕ) (P Q : ℕ → Type 0) (p : Exactly j n P) (q : Exactly k n Q) where
  into : ((s : ℕ) → s < n → P s → Q s) → (s : ℕ) → s < n → p.0 s ≡ true → q.0 s ≡ true
  into h s l e = (q.1 s l).1 (h s l ((p.1 s l).0 e))

  pub exactly_le : ((s : ℕ) → s < n → P s → Q s) → j ≤ k
  exactly_le h = let le = how_many_le p.0 q.0 n (into h) in omega (arith, p.2, q.2)

  pub exactly_all : ((s : ℕ) → s < n → P s → Q s) → k ≤ j → (s : ℕ) → s < n → Q s → P s
  exactly_all h le s l i =
      let le' : how_many q.0 n ≤ how_many p.0 n = omega (arith, p.2, q.2) in
      (p.1 s l).0 (how_many_all p.0 q.0 n (into h) le' s l ((q.1 s l).1 i))
