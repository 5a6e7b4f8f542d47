use Rattle.std.proofs.Common.{◌≡◌, ℕ, zero, suc, ◌<◌, Bool, true, ◌||◌, eqb, ◌↔◌, [], ◌∷◌, refl, ap, ◌∙◌, inl, inr, arith}
use mathlib.Core.Bool.{xor}
use Rattle.std.proofs.lemmas.Bool.{cases_eq}
use Rattle.naming.specs.Words.{Elem, Once}
use Rattle.naming.specs.Names.{Shape, Treelike}
use Rattle.naming.specs.Built.{sub_at, kids_from, hi_at, list_at}
use Rattle.naming.specs.Bridge.{BridgeStands, example, ExampleStands}
use Rattle.naming.proofs.Trees.{sub_le, sub_trans, sub_chain}
use Rattle.naming.proofs.Xor.{xor_comm}

module _ (S : Shape ℕ) (tree : Treelike S) where
  cross : (k v w : ℕ) → k < S.size → v < S.size → S.sub w v ≡ true → (xor (S.sub k v) (S.sub k w) ≡ true) ↔ ((S.sub k v ≡ true) × (w < k))
  unfolding xor
  cross k v w lk lv s =
      let wv = sub_le S tree w v lv s in
      let kw = sub_le S tree k w in
      let chain = sub_chain S tree k w v lv in
      let trans = sub_trans S tree k w v lv in
      grind arith

  same_sub' : (t : ℕ) (f : ℕ → Bool) → f 0 ≡ eqb 0 t → ((v : ℕ) → 0 < v → v < S.size → f v ≡ (eqb v t || f (S.parent v))) →
      (m v : ℕ) → v < m → v < S.size → f v ≡ S.sub t v
  same_sub' t f z more zero v h l = absurd (omega arith)
  same_sub' t f z more (suc m) v h l =
      let next = same_sub' t f z more m (S.parent v) in
      let by_f = more v in
      let by_sub = tree.sub_more t v in
      let up = tree.up v in
      let root = tree.sub_zero t in
      grind (arith, cases_eq v 0)

pub bridge : BridgeStands
bridge S tree =
    record {
      cross = cross S tree;
      cross_turned = λ k v w lk lv s.
          let c = cross S tree k v w lk lv s in
          (λ h. c.0 (xor_comm (S.sub k v) (S.sub k w) ∙ h), λ h. xor_comm (S.sub k w) (S.sub k v) ∙ c.1 h);
      same_sub = λ t f z more v l. same_sub' S tree t f z more (suc v) v (omega arith) l;
    }

-- a fact of each number below 5
pub five : (Q : ℕ → Type 0) → Q 0 → Q 1 → Q 2 → Q 3 → Q 4 → (k : ℕ) → k < 5 → Q k
five Q a b c d e zero h = a
five Q a b c d e (suc zero) h = b
five Q a b c d e (suc (suc zero)) h = c
five Q a b c d e (suc (suc (suc zero))) h = d
five Q a b c d e (suc (suc (suc (suc zero)))) h = e
five Q a b c d e (suc (suc (suc (suc (suc k))))) h = absurd (omega arith)

pub example_stands : ExampleStands
unfolding sub_at kids_from hi_at list_at
example_stands = (
  record {
    up = λ k z l. grind arith;
    once = five (λ k. Once (example.links k)) tt tt tt (λ m. m, tt) (λ m. m, tt);
    link = λ k x l m. five (λ k. Elem x (example.links k) → (x < 2) × (example.from x ≡ k) × (0 < k) × (sub_at example.parent (suc k) 0 k ≡ true))
        (λ m. absurd m) (λ m. absurd m) (λ m. absurd m) (at_three x) (at_four x) k l m;
  },
  refl,
  refl,
  refl,
  refl,
)
  where
    at_three : (x : ℕ) → Elem x (0 ∷ []) → (x < 2) × (example.from x ≡ 3) × (0 < 3) × (sub_at example.parent 4 0 3 ≡ true)
    at_three x (inl e) = (omega arith, ap example.from e, omega arith, refl)
    at_three x (inr m) = absurd m

    at_four : (x : ℕ) → Elem x (1 ∷ []) → (x < 2) × (example.from x ≡ 4) × (0 < 4) × (sub_at example.parent 5 0 4 ≡ true)
    at_four x (inl e) = (omega arith, ap example.from e, omega arith, refl)
    at_four x (inr m) = absurd m
