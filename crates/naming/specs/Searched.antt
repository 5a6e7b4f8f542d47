-- Back links by number, and the caps numbered behind them: all that the theorems ask, computed from the parents and the back links.
use Rattle.std.specs.Prelude.{◌≡◌, ℕ, suc, ◌+◌, ◌-◌, ◌<◌, Bool, true, cond, not, ◌&&◌, List, ◌∷◌, nat_lt}
use Rattle.naming.specs.Words.{Elem, Once, low, second}
use Rattle.naming.specs.Names.{Named, Carried}
use Rattle.naming.specs.Built.{Base, sub_at, kids_all, hi_at, shape_of, Built}

-- What a search leaves: how many numbers, the parent of each, the back links of each, and from where to where each goes.
pub record Searched : Type 0 where
  pub size : ℕ
  pub parent : ℕ → ℕ
  -- the back links have numbers below many; links k are those with src k
  pub many : ℕ
  pub links : ℕ → List ℕ
  pub from : ℕ → ℕ
  pub to : ℕ → ℕ

-- hi0 and hi2 of k, and whether k has a cap
abbrev pub low_own : Searched → ℕ → ℕ
low_own P k = low P.size P.to (P.links k)

abbrev pub low_second : Searched → ℕ → ℕ
low_second P k = second P.size (hi_at P.size P.parent (low_own P) P.size) (kids_all P.size P.parent k)

abbrev pub capped : Searched → ℕ → Bool
capped P k = nat_lt (low_second P k) (low_own P k) && nat_lt (low_second P k) k

-- the items: back links, and behind them the cap of number k as many + k, where the rule gives it one
abbrev pub base_by : (ℕ → Bool) → Searched → Base ℕ
base_by rule P =
    record {
      size = P.size;
      parent = P.parent;
      src = λ x. cond (nat_lt x P.many) (P.from x) (x - P.many);
      dst = λ x. cond (nat_lt x P.many) (P.to x) (low_second P (x - P.many));
      cap = λ x. not (nat_lt x P.many);
      own = λ k. cond (rule k) ((P.many + k) ∷ P.links k) (P.links k);
      hi0 = low_own P;
    }

abbrev pub base_of : Searched → Base ℕ
base_of P = base_by (capped P) P

-- Parents have lower numbers, and each back link goes up to an ancestor.
pub record Upward (P : Searched) : Type 0 where
  pub up : (k : ℕ) → 0 < k → k < P.size → P.parent k < k
  pub once : (k : ℕ) → k < P.size → Once (P.links k)
  pub link : (k x : ℕ) → k < P.size → Elem x (P.links k) → (x < P.many) × (P.from x ≡ k) × (P.to x < k) × (sub_at P.parent (suc k) (P.to x) k ≡ true)

-- Theorem: the lists of a search are by the method, and their names tell its brackets.
abbrev pub SearchedStands : Type 0
SearchedStands =
    (P : Searched) → Upward P → (d : ℕ) →
    Built ℕ (base_of P) × Named ℕ (shape_of (base_of P)) d × Carried ℕ (shape_of (base_of P)) d
