-- One level changed, and the others as they were.
use Rattle.std.proofs.Common.{◌≡◌, ℕ, ◌<◌, List, length, get_or, set, ap, ◌∙◌, length-set}
use Rattle.std.proofs.lemmas.List.{get_or-set_same, get_or-set_other}
use Rattle.brackets.specs.declared.levels.Level.{Level}
use Rattle.brackets.specs.Levels.{bare, level, change}

module _ (ls : List Level) (k : ℕ) (f : Level → Level) where
  pub change_same : (p : ℕ) → p ≡ k → k < length ls → level (change ls k f) p ≡ f (level ls k)
  change_same p e l = ap (λ (i : ℕ). get_or (set ls k (f (level ls k))) i (bare 0)) e ∙ get_or-set_same ls k (f (level ls k)) (bare 0) l

  pub change_other : (p : ℕ) → (p ≡ k → ⊥) → level (change ls k f) p ≡ level ls p
  change_other p d = get_or-set_other ls k p (f (level ls k)) (bare 0) d

  pub change_long : length (change ls k f) ≡ length ls
  change_long = length-set ls k (f (level ls k))
