-- Below by steps and below by parents are one.
use Rattle.std.proofs.Common.{◌≡◌, ℕ, zero, suc, ◌<◌, ◌≤◌, ◌≢◌, ◌⊎◌, List, length, Some, sym, ap, ◌∙◌, subst, inl, inr, arith}
use Rattle.std.proofs.lemmas.Option.{none-some, same_Some}
use Rattle.std.proofs.lemmas.Bool.{cases_eq}
use Rattle.model.specs.Meaning.{Meaning}
use Rattle.model.specs.Walks.{Sound}
use Rattle.model.specs.Listing.{Row, row, Parent, Below, Listing}
use Rattle.theory.specs.Listings.{Above, parent, higher, BelowByParents, ParentLeast}
use Rattle.theory.proofs.Unique.{parent_least}

pub the_least : ParentLeast
the_least μ sound rows L i j k lj p lk n h = parent_least μ sound rows L i j k lj p lk n h

module _ (μ : Meaning) (sound : Sound μ.graph) (rows : List Row) (L : Listing μ rows) where
  up : (f i j : ℕ) → j ≤ f → i < length rows → j < length rows → Below μ.graph rows i j → Above rows i j
  up zero i j lf li lj b = let l = L.after i j li lj b in absurd (omega arith)
  up (suc f) i j lf li lj b =
      let l = L.after i j li lj b in
      let p = L.parents j (omega arith) lj in
      let lp = L.after p.0 j p.2.is_row lj (p.2.other, p.2.holds) in
      pick p (λ n. up f i p.0 (omega arith) li p.2.is_row (n, parent_least μ sound rows L p.0 j i lj p.2 li b.0 b.1)) (cases_eq i p.0)
    where
      pick :
          (p : (p : ℕ) × ((row rows j).parent ≡ Some p) × Parent μ.graph rows p j) → (i ≢ p.0 → Above rows i p.0) → (i ≡ p.0) ⊎ (i ≡ p.0 → ⊥) →
          Above rows i j
      pick p more (inl e) = parent (p.1 ∙ ap (λ (x : ℕ). Some x) (sym e))
      pick p more (inr n) = higher p.1 (more n)

  -- a row that has a parent is below it
  under : (i j : ℕ) → j < length rows → (row rows j).parent ≡ Some i → Parent μ.graph rows i j
  under i j lj e = pick (cases_eq j 0)
    where
      pick : (j ≡ 0) ⊎ (j ≡ 0 → ⊥) → Parent μ.graph rows i j
      pick (inl z) = absurd (none-some i (sym (ap (λ (x : ℕ). (row rows x).parent) z ∙ L.rootless) ∙ e))
      pick (inr z) = let p = L.parents j (omega arith) lj in subst (λ (x : ℕ). Parent μ.graph rows x j) (same_Some p.0 i (sym p.1 ∙ e)) p.2

  down : {i j : ℕ} → i < length rows → j < length rows → Above rows i j → Below μ.graph rows i j
  down {i} {j} li lj (parent e) = let p = under i j lj e in (p.other, p.holds)
  down {i} {j} li lj (higher {k = k} e a) =
      let p = under k j lj e in
      let b = down li p.is_row a in
      let l1 = L.after i k li p.is_row b in
      let l2 = L.after k j p.is_row lj (p.other, p.holds) in
      (λ q. omega arith, λ s x. b.1 s (p.holds s x))

pub below_by_parents : BelowByParents
below_by_parents μ sound rows L i j li lj = (up μ sound rows L j i j (omega arith) li lj, down μ sound rows L li lj)
