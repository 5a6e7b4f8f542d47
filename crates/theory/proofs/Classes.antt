-- Every link has a class name, and a link with equal ends has its class for itself.
use Rattle.std.proofs.Common.{◌≡◌, ℕ, zero, suc, ◌<◌, ◌≤◌, ◌⊎◌, [], ◌∷◌, length, sym, refl, subst, inl, inr, arith}
use Rattle.std.proofs.lemmas.Bool.{cases_eq}
use Rattle.model.specs.Meaning.{Graph, tail_of}
use Rattle.model.specs.Walks.{closed, Passes, Share, ClassName, Sound}
use Rattle.theory.specs.Cuts.{ClassNamed, EqualEndsAlone}
use Rattle.theory.proofs.Sides.{share_refl}
use Rattle.theory.proofs.Insides.{share?}

module _ (g : Graph) (sound : Sound g) (l : ℕ) (ll : l < length g.links) where
  -- the smallest link below n that shares, if there is one
  abbrev Found : ℕ → Type 0
  Found n = (c : ℕ) × (c < n) × Share (closed g) c l × ((k : ℕ) → k < c → Share (closed g) k l → ⊥)

  find : (n : ℕ) → n ≤ length g.links → ((k : ℕ) → k < n → Share (closed g) k l → ⊥) ⊎ Found n
  find zero le = inl (λ k lk. absurd (omega arith))
  find (suc n) le = pick (find n (omega arith)) (share? g sound n l (omega arith) ll)
    where
      pick : ((k : ℕ) → k < n → Share (closed g) k l → ⊥) ⊎ Found n → Share (closed g) n l ⊎ (Share (closed g) n l → ⊥) →
          ((k : ℕ) → k < suc n → Share (closed g) k l → ⊥) ⊎ Found (suc n)
      pick (inr f) s = inr (f.0, omega (arith, f.1), f.2, f.3)
      pick (inl none) (inl s) = inr (n, omega arith, s, none)
      pick (inl none) (inr no_n) = inl (λ k lk s. last k lk s (cases_eq k n))
        where
          last : (k : ℕ) → k < suc n → Share (closed g) k l → (k ≡ n) ⊎ (k ≡ n → ⊥) → ⊥
          last k lk s (inl e) = no_n (subst (λ (x : ℕ). Share (closed g) x l) e s)
          last k lk s (inr d) = none k (omega arith) s

  named : (c : ℕ) × ClassName g l c
  named = pick (find (length g.links) (omega arith))
    where
      pick : ((k : ℕ) → k < length g.links → Share (closed g) k l → ⊥) ⊎ Found (length g.links) → (c : ℕ) × ClassName g l c
      pick (inl none) = absurd (none l ll (share_refl (closed g) l l refl))
      pick (inr f) = (f.0, record { is_link = f.1; shares = f.2; smallest = λ k _ s. let less : k < f.0 → ⊥ = λ h. f.3 k h s in omega arith })

  one_name : (c d : ℕ) → ClassName g l c → ClassName g l d → c ≡ d
  one_name c d p q =
      let x = p.smallest d q.is_link q.shares in
      let y = q.smallest c p.is_link p.shares in
      omega arith

pub class_named : ClassNamed
class_named g sound l ll = (named g sound l ll, one_name g sound l ll)

-- the closed walk of the link alone passes no other
pub equal_ends_alone : EqualEndsAlone
equal_ends_alone G k lk e l share = pick ((share (tail_of G k) (k ∷ []) (omega arith, (lk, refl, sym e))).0 (inl refl))
  where
    pick : Passes l (k ∷ []) → l ≡ k
    pick (inl q) = q
    pick (inr q) = absurd q
