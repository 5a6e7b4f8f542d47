-- The lowest dst of a subtree's back links, and what the caps are for.
use Rattle.std.proofs.Common.{◌≡◌, ℕ, zero, suc, ◌+◌, ◌<◌, ◌≤◌, min, true, false, ◌≢◌, ◌⊎◌, subst, inl, inr, arith}
use Rattle.std.proofs.lemmas.Bool.{cases_eq, cases_lt, cases_Bool}
use Rattle.naming.specs.Words.{Elem, low}
use Rattle.naming.specs.Names.{Shape, ByMethod, hi2}
use Rattle.naming.proofs.Lowest.{low_le, low_some, second_le, second_some}
use Rattle.naming.proofs.Trees.{sub_self, sub_trans, sub_chain, kid_below, kid_towards}

-- x is a back link from the subtree of k
pub record Under {X : Type 0} (S : Shape X) (k : ℕ) (x : X) : Type 0 where
  pub within : S.src x < S.size
  pub item : Elem x (S.own (S.src x))
  pub link : S.cap x ≡ false
  pub below : S.sub k (S.src x) ≡ true

module _ {X : Type 0} (S : Shape X) (law : ByMethod S) where
  own_under : (k : ℕ) (x : X) → k < S.size → Elem x (S.own k) → S.cap x ≡ false → Under S k x
  own_under k x l m e =
      let s = law.own_src k x l m in
      record {
        within = omega arith;
        item = rw s m;
        link = e;
        below = rw s (sub_self S law.tree k l);
      }

  kid_under : (k c : ℕ) (x : X) → k < S.size → Elem c (S.kids k) → Under S c x → Under S k x
  kid_under k c x l m u =
      record {
        within = u.within;
        item = u.item;
        link = u.link;
        below = sub_trans S law.tree k c (S.src x) u.within (kid_below S law.tree k c l m).2 u.below;
      }

  hi_low' : (m k : ℕ) (x : X) → S.size ≤ k + m → k < S.size → Under S k x → S.hi k ≤ S.dst x
  hi_low' zero k x h l u = absurd (omega arith)
  hi_low' (suc m) k x h l u = pick (cases_eq (S.src x) k) (λ c. hi_low' m c x)
    where
      pick : (S.src x ≡ k) ⊎ (S.src x ≡ k → ⊥) → ((c : ℕ) → S.size ≤ c + m → c < S.size → Under S c x → S.hi c ≤ S.dst x) → S.hi k ≤ S.dst x
      pick (inl e) next =
          let own = law.hi0_low k x l (subst (λ (i : ℕ). Elem x (S.own i)) e u.item) u.link in
          let is = law.hi_is k l in
          omega arith
      pick (inr d) next =
          let r = kid_towards S law.tree k (S.src x) u.within u.below d in
          let b = kid_below S law.tree k r.0 l r.1 in
          let is = law.hi_is k l in
          let lo = low_le S.size S.hi r.0 (S.kids k) r.1 in
          let hi = next r.0 (omega (arith, b.0)) b.1 (record { within = u.within; item = u.item; link = u.link; below = r.2 }) in
          omega arith

  pub hi_low : (k : ℕ) (x : X) → k < S.size → Under S k x → S.hi k ≤ S.dst x
  hi_low k x = hi_low' S.size k x (omega arith)

  hi_some' : (m k : ℕ) → S.size ≤ k + m → k < S.size → S.hi k < S.size → (x : X) × Under S k x × (S.dst x ≡ S.hi k)
  hi_some' zero k h l t = absurd (omega arith)
  hi_some' (suc m) k h l t = pick (cases_lt (low S.size S.hi (S.kids k)) (S.hi0 k)) (λ c. hi_some' m c)
    where
      is : S.hi k ≡ min (S.hi0 k) (low S.size S.hi (S.kids k))
      is = law.hi_is k l

      pick : (low S.size S.hi (S.kids k) < S.hi0 k) ⊎ (S.hi0 k ≤ low S.size S.hi (S.kids k)) →
          ((c : ℕ) → S.size ≤ c + m → c < S.size → S.hi c < S.size → (x : X) × Under S c x × (S.dst x ≡ S.hi c)) →
          (x : X) × Under S k x × (S.dst x ≡ S.hi k)
      pick (inl g) next =
          let e = is in
          let r = low_some S.size S.hi (S.kids k) (omega arith) in
          let b = kid_below S law.tree k r.0 l r.1 in
          let q = next r.0 (omega (arith, b.0)) b.1 (omega (arith, r.2)) in
          (q.0, kid_under k r.0 q.0 l r.1 q.1, omega (arith, q.2, r.2))
      pick (inr g) next =
          let e = is in
          let r = law.hi0_some k l (omega arith) in
          (r.0, own_under k r.0 l r.1 r.2, omega (arith, r.3))

  pub hi_some : (k : ℕ) → k < S.size → S.hi k < S.size → (x : X) × Under S k x × (S.dst x ≡ S.hi k)
  hi_some k = hi_some' S.size k (omega arith)

  -- a cap comes with two back links, from two children, that go no lower
  pub record Pair (k : ℕ) (y : X) : Type 0 where
    pub c : ℕ
    pub d : ℕ
    pub c_kid : Elem c (S.kids k)
    pub d_kid : Elem d (S.kids k)
    pub apart : c ≢ d
    pub r : X
    pub s : X
    pub r_under : Under S c r
    pub s_under : Under S d s
    pub r_dst : S.dst r ≤ S.dst y
    pub s_dst : S.dst s ≡ S.dst y

  pub cap_pair : (k : ℕ) (y : X) → k < S.size → Elem y (S.own k) → S.cap y ≡ true → Pair k y
  cap_pair k y l m t =
      let is = law.cap_is k y l m t in
      let two = second_some S.size S.hi (S.kids k) (law.tree.kids_once k l) (omega (arith, is.0)) in
      let r = hi_some two.0 (kid_below S law.tree k two.0 l two.2).1 (omega (arith, is.0, two.5)) in
      let s = hi_some two.1 (kid_below S law.tree k two.1 l two.3).1 (omega (arith, is.0, two.6)) in
      record {
        c = two.0;
        d = two.1;
        c_kid = two.2;
        d_kid = two.3;
        apart = two.4;
        r = r.0;
        s = s.0;
        r_under = r.1;
        s_under = s.1;
        r_dst = omega (arith, is.1, r.2, two.5);
        s_dst = omega (arith, s.2, two.6, is.1);
      }

  -- back links from two children that both pass above k: then z has an item of its own that does
  pub two_own : (k z c d : ℕ) (r s : X) → z < S.size → k ≤ z → Elem c (S.kids z) → Elem d (S.kids z) → c ≢ d →
      Under S c r → Under S d s → S.dst r < k → S.dst s < k → (w : X) × Elem w (S.own z) × (S.dst w < k)
  two_own k z c d r s l le mc md ne ur us hr hs = pick (cases_lt (hi2 S z) (S.hi0 z))
    where
      small : hi2 S z < k
      small =
          let a = hi_low c r (kid_below S law.tree z c l mc).1 ur in
          let b = hi_low d s (kid_below S law.tree z d l md).1 us in
          let t = second_le S.size S.hi c d (S.kids z) mc md ne in
          omega arith

      pick : (hi2 S z < S.hi0 z) ⊎ (S.hi0 z ≤ hi2 S z) → (w : X) × Elem w (S.own z) × (S.dst w < k)
      pick (inl g) =
          let t = small in
          let w = law.cap_some z l g (omega arith) in
          (w.0, w.1, omega (arith, w.2))
      pick (inr g) =
          let t = small in
          let w = law.hi0_some z l (omega arith) in
          (w.0, w.1, omega (arith, w.3))

  -- every item goes to a number above its own
  pub item_up : (k : ℕ) (x : X) → k < S.size → Elem x (S.own k) → (S.sub (S.dst x) k ≡ true) × (S.dst x < k)
  item_up k x l m = pick (cases_Bool (S.cap x))
    where
      pick : (S.cap x ≡ true) ⊎ (S.cap x ≡ false) → (S.sub (S.dst x) k ≡ true) × (S.dst x < k)
      pick (inr e) = law.link_up k x l m e
      pick (inl e) =
          let p = cap_pair k x l m e in
          let is = law.cap_is k x l m e in
          let u = kid_under k p.d p.s l p.d_kid p.s_under in
          let up = law.link_up (S.src p.s) p.s u.within u.item u.link in
          let low : S.dst x < k = omega (arith, is.0, is.1) in
          let above = subst (λ (i : ℕ). S.sub i (S.src p.s) ≡ true) p.s_dst up.0 in
          (sub_chain S law.tree (S.dst x) k (S.src p.s) u.within above u.below (omega arith), low)
