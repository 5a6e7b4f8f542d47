-- The run of a row.
use Rattle.std.proofs.Common.{◌≡◌, ℕ, zero, suc, ◌+◌, ◌-◌, ◌<◌, ◌≤◌, ◌⊎◌, List, length, sym, subst, inl, inr, arith}
use Rattle.std.proofs.lemmas.Bool.{cases_eq, cases_lt, cases_Bool}
use Rattle.model.specs.Meaning.{Graph, Meaning}
use Rattle.model.specs.Walks.{Sound}
use Rattle.model.specs.Parts.{Holds}
use Rattle.model.specs.Listing.{Row, row, Listing, RunOf}
use Rattle.theory.specs.Listings.{RunsNest}
use Rattle.theory.proofs.Unique.{proper}
use Rattle.theory.proofs.Parts.{holdsb, t_holds}

module _ (μ : Meaning) (sound : Sound μ.graph) (rows : List Row) (L : Listing μ rows) (i : ℕ) (li : i < length rows) where
  abbrev Has : ℕ → Type 0
  Has j = Holds μ.graph (row rows i).part (row rows j).part

  held? : (j : ℕ) → j < length rows → Has j ⊎ (Has j → ⊥)
  held? j lj =
      let t = t_holds μ.graph sound (row rows i).part (row rows j).part (proper μ sound rows L i li) (proper μ sound rows L j lj) in
      grind (arith, cases_Bool (holdsb μ.graph (row rows i).part (row rows j).part))

  -- what is held stands at i or behind it
  behind : (j : ℕ) → j < length rows → Has j → i ≤ j
  behind j lj h = pick (cases_eq i j)
    where
      pick : (i ≡ j) ⊎ (i ≡ j → ⊥) → i ≤ j
      pick (inl e) = omega arith
      pick (inr n) = let l = L.after i j li lj (n, h) in omega arith

  -- all rows from i to k are held, and k is not
  ends : (k : ℕ) → i < k → k ≤ length rows → ((j : ℕ) → i ≤ j → j < k → Has j) → (k < length rows → Has k → ⊥) → RunOf μ.graph rows i (k - i)
  ends k lk lr all stop =
      record { room = omega arith; has = λ j lj. (λ p. all j p.0 (let l = p.1 in omega arith), λ h. (behind j lj h, before j lj h (cases_lt j k))) }
    where
      before : (j : ℕ) → j < length rows → Has j → (j < k) ⊎ (k ≤ j) → j < i + (k - i)
      before j lj h (inl l) = omega arith
      before j lj h (inr l) = absurd (at (cases_eq j k))
        where
          at : (j ≡ k) ⊎ (j ≡ k → ⊥) → ⊥
          at (inl e) = stop (omega arith) (subst (λ (x : ℕ). Holds μ.graph (row rows i).part (row rows x).part) e h)
          at (inr n) = stop (omega arith) (L.directly i j k lk (omega arith) lj (λ e. omega arith, h)).1

  grow : (f k : ℕ) → length rows ≤ k + f → i < k → k ≤ length rows → ((j : ℕ) → i ≤ j → j < k → Has j) → (r : ℕ) × RunOf μ.graph rows i r
  grow zero k lf lk lr all = (k - i, ends k lk lr all (λ l. absurd (omega arith)))
  grow (suc f) k lf lk lr all = pick (λ l h. grow f (suc k) (omega arith) (omega arith) l (more h)) (cases_lt k (length rows))
    where
      more : Has k → (j : ℕ) → i ≤ j → j < suc k → Has j
      more h j lj l = go (cases_eq j k)
        where
          go : (j ≡ k) ⊎ (j ≡ k → ⊥) → Has j
          go (inl e) = subst (λ (x : ℕ). Holds μ.graph (row rows i).part (row rows x).part) (sym e) h
          go (inr n) = all j lj (omega arith)

      pick : (k < length rows → Has k → (r : ℕ) × RunOf μ.graph rows i r) → (k < length rows) ⊎ (length rows ≤ k) → (r : ℕ) × RunOf μ.graph rows i r
      pick next (inr l) = (k - i, ends k lk lr all (λ x. absurd (omega arith)))
      pick next (inl l) = go (held? k l)
        where
          go : Has k ⊎ (Has k → ⊥) → (r : ℕ) × RunOf μ.graph rows i r
          go (inl h) = next l h
          go (inr n) = (k - i, ends k lk lr all (λ _ h. n h))

  a_run : (r : ℕ) × RunOf μ.graph rows i r
  a_run = grow (length rows) (suc i) (omega arith) (omega arith) li (λ j lj l. let e : i ≡ j = omega arith in subst (λ (x : ℕ). Holds μ.graph (row rows i).part (row rows x).part) e (λ s x. x))

pub runs_nest : RunsNest
runs_nest =
    record {
      some = a_run;
      own = λ g rows i r li R. let h = (R.has i li).1 (λ s x. x) in let l = h.1 in omega arith;
      nest = λ g rows i r j s li lj R S le lt. within g rows i r j s li lj R S le lt (cases_lt (i + r) (j + s));
    }
  where
    within :
        (g : Graph) (rows : List Row) (i r j s : ℕ) → i < length rows → j < length rows → RunOf g rows i r → RunOf g rows j s → i ≤ j → j < i + r →
        (i + r < j + s) ⊎ (j + s ≤ i + r) → j + s ≤ i + r
    within g rows i r j s li lj R S le lt (inr l) = l
    within g rows i r j s li lj R S le lt (inl l) =
        let room = S.room in
        let k : i + r < length rows = omega arith in
        let a = (S.has (i + r) k).0 (omega arith, l) in
        let b = (R.has j lj).0 (le, lt) in
        let c = ((R.has (i + r) k).1 (λ t x. b t (a t x))).1 in
        absurd (omega arith)
