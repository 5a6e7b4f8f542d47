-- Subtrees: of two numbers above a third one is above the other.
use Rattle.std.proofs.Common.{◌≡◌, ℕ, zero, suc, ◌<◌, ◌≤◌, true, eqb, ◌≢◌, ◌⊎◌, ap, ◌∙◌, subst, inl, inr, arith}
use Rattle.std.proofs.lemmas.Bool.Decides.{nat_tests}
use Rattle.std.proofs.lemmas.Bool.{cases_eq, or_right}
use Rattle.naming.specs.Words.{Elem}
use Rattle.naming.specs.Names.{Shape, Treelike}

module _ {X : Type 0} (S : Shape X) (tree : Treelike S) where
  abbrev pub Sub : ℕ → ℕ → Type 0
  Sub t v = S.sub t v ≡ true

  -- v is t, or the parent of v is below t
  pub parted : (t v : ℕ) → v < S.size → Sub t v → (v ≡ t) ⊎ ((0 < v) × Sub t (S.parent v))
  parted t v l s =
      let root = tree.sub_zero t in
      let more = tree.sub_more t v in
      grind (arith, nat_tests, cases_eq v 0)

  pub sub_self : (v : ℕ) → v < S.size → Sub v v
  sub_self v l =
      let root = tree.sub_zero v in
      let more = tree.sub_more v v in
      grind (arith, nat_tests, cases_eq v 0)

  pub sub_down : (t v : ℕ) → 0 < v → v < S.size → Sub t (S.parent v) → Sub t v
  sub_down t v p l s = tree.sub_more t v p l ∙ or_right (eqb v t) (S.sub t (S.parent v)) s

  sub_le' : (m t v : ℕ) → v < m → v < S.size → Sub t v → t ≤ v
  sub_le' zero t v h l s = absurd (omega arith)
  sub_le' (suc m) t v h l s =
      let next = sub_le' m t (S.parent v) in
      let u = tree.up v in
      grind (arith, parted t v l s)

  pub sub_le : (t v : ℕ) → v < S.size → Sub t v → t ≤ v
  sub_le t v = sub_le' (suc v) t v (omega arith)

  sub_trans' : (m a b v : ℕ) → v < m → v < S.size → Sub a b → Sub b v → Sub a v
  sub_trans' zero a b v h l s t = absurd (omega arith)
  sub_trans' (suc m) a b v h l s t =
      let next = sub_trans' m a b (S.parent v) in
      let down = sub_down a v in
      let u = tree.up v in
      grind (arith, parted b v l t)

  pub sub_trans : (a b v : ℕ) → v < S.size → Sub a b → Sub b v → Sub a v
  sub_trans a b v = sub_trans' (suc v) a b v (omega arith)

  sub_chain' : (m a b v : ℕ) → v < m → v < S.size → Sub a v → Sub b v → a ≤ b → Sub a b
  sub_chain' zero a b v h l s t o = absurd (omega arith)
  sub_chain' (suc m) a b v h l s t o =
      let next = sub_chain' m a b (S.parent v) in
      let u = tree.up v in
      let le = sub_le b v l t in
      let self = sub_self b in
      grind (arith, parted a v l s, parted b v l t)

  -- two numbers above v: the lower number is above the other
  pub sub_chain : (a b v : ℕ) → v < S.size → Sub a v → Sub b v → a ≤ b → Sub a b
  sub_chain a b v = sub_chain' (suc v) a b v (omega arith)

  pub kid_below : (z c : ℕ) → z < S.size → Elem c (S.kids z) → (z < c) × (c < S.size) × Sub z c
  kid_below z c l m =
      let k = tree.kid z c l m in
      let u = tree.up c k.0 k.1 in
      (omega (arith, k.2), k.1, sub_down z c k.0 k.1 (ap (S.sub z) k.2 ∙ sub_self z l))

  -- a number above the child c and below c is above its parent
  pub over_kid : (t z c : ℕ) → z < S.size → Elem c (S.kids z) → Sub t c → t < c → Sub t z
  over_kid t z c l m s h = let k = tree.kid z c l m in grind (arith, parted t c k.1 s)

  -- the subtrees of two children have nothing in common
  kids_apart' : (z c d v : ℕ) → z < S.size → v < S.size → Elem c (S.kids z) → Elem d (S.kids z) → Sub c v → Sub d v → c < d → ⊥
  kids_apart' z c d v l lv m q s t h =
      let up = over_kid c z d l q (sub_chain c d v lv s t (omega arith)) h in
      let le = sub_le c z l up in
      let k = kid_below z c l m in
      omega (arith, k.0)

  pub kids_apart : (z c d v : ℕ) → z < S.size → v < S.size → Elem c (S.kids z) → Elem d (S.kids z) → Sub c v → Sub d v → c ≡ d
  kids_apart z c d v l lv m q s t =
      let a = kids_apart' z c d v l lv m q s t in
      let b = kids_apart' z d c v l lv q m t s in
      omega arith

  kid_towards' : (m z v : ℕ) → v < m → v < S.size → Sub z v → v ≢ z → (c : ℕ) × Elem c (S.kids z) × Sub c v
  kid_towards' zero z v h l s d = absurd (omega arith)
  kid_towards' (suc m) z v h l s d = pick (parted z v l s) (cases_eq (S.parent v) z) (kid_towards' m z (S.parent v))
    where
      pick : (v ≡ z) ⊎ ((0 < v) × Sub z (S.parent v)) → (S.parent v ≡ z) ⊎ (S.parent v ≡ z → ⊥) →
          (S.parent v < m → S.parent v < S.size → Sub z (S.parent v) → S.parent v ≢ z → (c : ℕ) × Elem c (S.kids z) × Sub c (S.parent v)) →
          (c : ℕ) × Elem c (S.kids z) × Sub c v
      pick (inl e) f next = absurd (d e)
      pick (inr q) (inl e) next = (v, subst (λ (i : ℕ). Elem v (S.kids i)) e (tree.kid_of v q.0 l), sub_self v l)
      pick (inr q) (inr n) next =
          let u = tree.up v q.0 l in
          let r = next (omega arith) (omega arith) q.1 n in
          (r.0, r.1, sub_down r.0 v q.0 l r.2)

  -- below z and not z: below a child of z
  pub kid_towards : (z v : ℕ) → v < S.size → Sub z v → v ≢ z → (c : ℕ) × Elem c (S.kids z) × Sub c v
  kid_towards z v = kid_towards' (suc v) z v (omega arith)
