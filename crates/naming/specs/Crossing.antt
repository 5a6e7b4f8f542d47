-- The names tell which of the links outside the tree cross a subtree.
use Rattle.std.specs.Prelude.{◌≡◌, ℕ, ◌<◌, Bool, ◌≢◌, ◌⊎◌, ◌↔◌, length, ◌==◌}
use Rattle.std.specs.Bool.{xor}
use Rattle.naming.specs.Words.{Elem}
use Rattle.naming.specs.Names.{top_of, SameName}
use Rattle.naming.specs.Built.{shape_of}
use Rattle.naming.specs.Searched.{Searched, Upward, base_of}

-- exactly one end of link e is in the subtree of k; tail and head give numbers of the tree
abbrev pub crossing : Searched → (ℕ → ℕ) → (ℕ → ℕ) → ℕ → ℕ → Bool
crossing P tail head k e = xor ((shape_of (base_of P)).sub k (tail e)) ((shape_of (base_of P)).sub k (head e))

-- Link e is not of the tree; link v is the tree link above v.
abbrev pub Outer : Searched → (ℕ → ℕ) → ℕ → Type 0
Outer P link e = ((v : ℕ) × (v < P.size) × (v ≢ 0) × (link v ≡ e)) → ⊥

-- the links outside the tree are the back links, and some with equal ends
pub record Drawn (P : Searched) (tail head link : ℕ → ℕ) : Type 0 where
  pub each : (e : ℕ) → e < P.many → Outer P link e → (tail e ≡ head e) ⊎ ((P.from e < P.size) × Elem e (P.links (P.from e)))
  pub outer : (k x : ℕ) → k < P.size → Elem x (P.links k) → Outer P link x
  pub ends :
      (k x : ℕ) → k < P.size → Elem x (P.links k) →
      ((tail x ≡ P.from x) × (head x ≡ P.to x)) ⊎ ((tail x ≡ P.to x) × (head x ≡ P.from x))

-- Equal names, the same links cross; the name of link b and length 1, b alone crosses.
pub record NamesCross (P : Searched) (tail head link : ℕ → ℕ) (d : ℕ) : Type 0 where
  pub inner :
      (k j : ℕ) → k < P.size → j < P.size →
      SameName (shape_of (base_of P)) d k j ↔ ((e : ℕ) → e < P.many → Outer P link e → crossing P tail head k e ≡ crossing P tail head j e)
  pub mixed :
      (k b : ℕ) → k < P.size → b < P.many → Outer P link b →
      ((top_of (shape_of (base_of P)) d k ≡ b) × (length ((shape_of (base_of P)).list k) ≡ 1)) ↔
      ((e : ℕ) → e < P.many → Outer P link e → crossing P tail head k e ≡ (e == b))

-- Theorem: so it is with every search.
abbrev pub NamesCrossStands : Type 0
NamesCrossStands = (P : Searched) (tail head link : ℕ → ℕ) (d : ℕ) → Upward P → Drawn P tail head link → NamesCross P tail head link d
