-- The links of a tree cut off a set exactly where their brackets are the same.
use Rattle.std.proofs.Common.{◌≡◌, ℕ, zero, suc, ◌<◌, Bool, false, ◌||◌, eqb, ◌≢◌, ◌⊎◌, ◌↔◌, length, sym, refl, ap, ◌∙◌, subst, ap₂, inl, inr, arith}
use Rattle.std.proofs.Math.Bool.{or-false}
use Rattle.std.proofs.lemmas.Bool.Decides.{nat_tests}
use mathlib.Core.Bool.{xor}
use Rattle.std.proofs.lemmas.Bool.{cases_eq, eq-eqb, ne_eqb, eqb-true, or_from, false≢true}
use Rattle.model.specs.Meaning.{tail_of, head_of, EndsBelow}
use Rattle.model.specs.Walks.{Links, closed, Share}
use Rattle.theory.specs.Cuts.{crosses, Crossed}
use Rattle.theory.proofs.Sides.{xor_same}
use Rattle.theory.proofs.Plans.{closed_within, share_is_cut}
use Rattle.naming.proofs.Xor.{xor_self, xor_comm, xor_cancel, xor_via, xor_mid, xor_or}
use Rattle.naming.specs.Brackets.{Tree, OfTree, SameBrackets, LoneBracket, BracketsTell}

-- whether a link is of the tree is decided
pub is_of_tree? : (n root : ℕ) (link : ℕ → ℕ) (k : ℕ) → OfTree n root link k ⊎ (OfTree n root link k → ⊥)
is_of_tree? zero root link k = inr (λ o. absurd (omega (arith, o.1)))
is_of_tree? (suc n) root link k = pick (is_of_tree? n root link k) (cases_eq (link n) k) (cases_eq n root)
  where
    least : (OfTree n root link k → ⊥) → (n ≢ root → link n ≡ k → ⊥) → OfTree (suc n) root link k → ⊥
    least none here o = split (cases_eq o.0 n)
      where
        split : (o.0 ≡ n) ⊎ (o.0 ≡ n → ⊥) → ⊥
        split (inl e) = here (λ f. o.2 (e ∙ f)) (cc)
        split (inr d) = none (o.0, omega (arith, o.1, d), o.2, o.3)

    pick : OfTree n root link k ⊎ (OfTree n root link k → ⊥) → (link n ≡ k) ⊎ (link n ≡ k → ⊥) → (n ≡ root) ⊎ (n ≡ root → ⊥) →
        OfTree (suc n) root link k ⊎ (OfTree (suc n) root link k → ⊥)
    pick (inl o) l z = inl (o.0, omega (arith, o.1), o.2, o.3)
    pick (inr none) (inl e) (inl z) = inr (least none (λ p _. p z))
    pick (inr none) (inl e) (inr z) = inl (n, omega arith, z, e)
    pick (inr none) (inr d) z = inr (least none (λ _ e. d e))

module _ (G : Links) (n root : ℕ) (rank parent link : ℕ → ℕ) (sub : ℕ → ℕ → Bool) (tree : Tree G n root rank parent link sub) where
  -- a tree link crosses a set where its step and the parent differ
  joined : (X : ℕ → Bool) (v : ℕ) → v < n → v ≢ root → crosses G X (link v) ≡ xor (X v) (X (parent v))
  joined X v l p = pick (tree.joins v l p)
    where
      pick :
          ((tail_of G (link v) ≡ parent v) × (head_of G (link v) ≡ v)) ⊎ ((tail_of G (link v) ≡ v) × (head_of G (link v) ≡ parent v)) →
          crosses G X (link v) ≡ xor (X v) (X (parent v))
      pick (inl e) = ap₂ xor (ap X e.0) (ap X e.1) ∙ xor_comm (X (parent v)) (X v)
      pick (inr e) = ap₂ xor (ap X e.0) (ap X e.1)

  -- a tree link crosses the subtree of its own step alone
  sub_step : (t v : ℕ) → t < n → v < n → v ≢ root → xor (sub t v) (sub t (parent v)) ≡ eqb v t
  unfolding xor
  sub_step t v q l p =
      let more = tree.sub_more t v q l p in
      let up = tree.up v l p in
      let high = tree.sub_up t (parent v) q (tree.in_graph v l p) in
      grind (arith, nat_tests)

  pub tree_cross : (t v : ℕ) → t < n → v < n → v ≢ root → crosses G (sub t) (link v) ≡ eqb v t
  tree_cross t v q l p = joined (sub t) v l p ∙ sub_step t v q l p

  same_number : (v t : ℕ) → v < n → v ≢ root → t < n → t ≢ root → eqb (link v) (link t) ≡ eqb v t
  same_number v t l p m q = let a = tree.apart v t l p m q in grind (arith, nat_tests)

  not_link : (k t : ℕ) → t < n → t ≢ root → (OfTree n root link k → ⊥) → eqb k (link t) ≡ false
  not_link k t l p none = ne_eqb k (link t) (λ e. none (t, l, p, sym e))

  -- two sets that the tree links cross alike are the same, up to the root's side
  mirror : (S H : ℕ → Bool) → ((v : ℕ) → v < n → v ≢ root → crosses G S (link v) ≡ xor (H v) (H (parent v))) → H root ≡ false →
      (m v : ℕ) → rank v < m → v < n → xor (S v) (S root) ≡ H v
  mirror S H alike bare zero v below l = absurd (omega arith)
  mirror S H alike bare (suc m) v below l = pick (cases_eq v root) (λ w. mirror S H alike bare m w)
    where
      pick : (v ≡ root) ⊎ (v ≡ root → ⊥) → ((w : ℕ) → rank w < m → w < n → xor (S w) (S root) ≡ H w) → xor (S v) (S root) ≡ H v
      pick (inl e) ih = ap (λ (x : ℕ). xor (S x) (S root)) e ∙ xor_self (S root) ∙ sym bare ∙ ap H (sym e)
      pick (inr p) ih =
          let u : ℕ = parent v in
          let up = tree.up v l p in
          xor_via (S v) (S u) (S root) ∙ ap₂ xor (sym (joined S v l p) ∙ alike v l p) (ih u (omega arith) (tree.in_graph v l p)) ∙ xor_cancel (H v) (H u)

  -- so a link crosses the one where it crosses the other
  mirrored : EndsBelow n G → (S H : ℕ → Bool) → ((v : ℕ) → v < n → v ≢ root → crosses G S (link v) ≡ xor (H v) (H (parent v))) → H root ≡ false →
      (k : ℕ) → k < length G → crosses G S k ≡ crosses G H k
  mirrored within S H alike bare k l =
      let x = tail_of G k in
      let y = head_of G k in
      let at_x = mirror S H alike bare (suc (rank x)) x (omega arith) (within k l).0 in
      let at_y = mirror S H alike bare (suc (rank y)) y (omega arith) (within k l).1 in
      xor_via (S x) (S root) (S y) ∙ ap₂ xor at_x (xor_comm (S root) (S y) ∙ at_y)

  module _ (s t : ℕ) (ls : s < n) (ps : s ≢ root) (lt : t < n) (pt : t ≢ root) (apart : s ≢ t) where
    either : (v : ℕ) → v < n → v ≢ root → xor (eqb v s) (eqb v t) ≡ (eqb (link v) (link s) || eqb (link v) (link t))
    either v l p =
        xor_or (eqb v s) (eqb v t) (λ e f. apart (sym (eqb-true v s e) ∙ eqb-true v t f)) ∙ sym (ap₂ ◌||◌ (same_number v s l p ls ps) (same_number v t l p lt pt))

    outside : (k : ℕ) → (OfTree n root link k → ⊥) → (eqb k (link s) || eqb k (link t)) ≡ false
    outside k none = or_from (eqb k (link s)) (eqb k (link t)) (not_link k s ls ps none) (not_link k t lt pt none)

    abbrev H : ℕ → Bool
    H v = xor (sub s v) (sub t v)

    mix : (k : ℕ) → crosses G H k ≡ xor (crosses G (sub s) k) (crosses G (sub t) k)
    mix k = xor_mid (sub s (tail_of G k)) (sub t (tail_of G k)) (sub s (head_of G k)) (sub t (head_of G k))

    H_cross : (v : ℕ) → v < n → v ≢ root → crosses G H (link v) ≡ (eqb (link v) (link s) || eqb (link v) (link t))
    H_cross v l p = mix (link v) ∙ ap₂ xor (tree_cross s v ls l p) (tree_cross t v lt l p) ∙ either v l p

    -- the same brackets: the steps between s and t
    pub parts : SameBrackets G n root link sub s t → (S : ℕ → Bool) × Crossed G S (link s) (link t)
    parts same = (H, λ k l. pick k l (is_of_tree? n root link k))
      where
        pick : (k : ℕ) → k < length G → OfTree n root link k ⊎ (OfTree n root link k → ⊥) → crosses G H k ≡ (eqb k (link s) || eqb k (link t))
        pick k l (inl o) =
            subst (λ (x : ℕ). crosses G H x ≡ (eqb x (link s) || eqb x (link t))) o.3 (H_cross o.0 o.1 o.2)
        pick k l (inr none) =
            mix k ∙ ap (λ (x : Bool). xor x (crosses G (sub t) k)) (same k l none) ∙ xor_self (crosses G (sub t) k) ∙ sym (outside k none)

    pub same : EndsBelow n G → (S : ℕ → Bool) → Crossed G S (link s) (link t) → SameBrackets G n root link sub s t
    same within S parted k l none =
        let e : crosses G S k ≡ crosses G H k =
        mirrored within S H (λ v m p. parted (link v) (tree.is_link v m p) ∙ sym (H_cross v m p) ∙ joined H v m p)
        (ap₂ xor (tree.sub_root s ls ps) (tree.sub_root t lt pt) ∙ xor_self false) k l in
        xor_same (crosses G (sub s) k) (crosses G (sub t) k) (sym (mix k) ∙ sym e ∙ parted k l ∙ outside k none)

  -- a tree link and a link outside the tree
  beside : (t e v : ℕ) → t < n → t ≢ root → (OfTree n root link e → ⊥) → v < n → v ≢ root → (eqb (link v) (link t) || eqb (link v) e) ≡ eqb v t
  beside t e v lt pt out m p = rw (same_number v t m p lt pt, ne_eqb (link v) e (λ q. out (v, m, p, q))) (or-false (eqb v t))

  pub lone_parts : (t e : ℕ) → t < n → t ≢ root → (OfTree n root link e → ⊥) → LoneBracket G n root link sub t e → Crossed G (sub t) (link t) e
  lone_parts t e lt pt out lone k l = pick (is_of_tree? n root link k)
    where
      at : (v : ℕ) → v < n → v ≢ root → crosses G (sub t) (link v) ≡ (eqb (link v) (link t) || eqb (link v) e)
      at v m p = tree_cross t v lt m p ∙ sym (beside t e v lt pt out m p)

      pick : OfTree n root link k ⊎ (OfTree n root link k → ⊥) → crosses G (sub t) k ≡ (eqb k (link t) || eqb k e)
      pick (inl o) = subst (λ (x : ℕ). crosses G (sub t) x ≡ (eqb x (link t) || eqb x e)) o.3 (at o.0 o.1 o.2)
      pick (inr none) = lone k l none ∙ sym (ap (λ (x : Bool). x || eqb k e) (not_link k t lt pt none))

  pub parts_lone :
      EndsBelow n G → (t e : ℕ) → t < n → t ≢ root → (OfTree n root link e → ⊥) → (S : ℕ → Bool) → Crossed G S (link t) e →
      LoneBracket G n root link sub t e
  parts_lone within t e lt pt out S parted k l none =
      sym (mirrored within S (sub t) alike (tree.sub_root t lt pt) k l) ∙ parted k l ∙ ap (λ (x : Bool). x || eqb k e) (not_link k t lt pt none)
    where
      alike : (v : ℕ) → v < n → v ≢ root → crosses G S (link v) ≡ xor (sub t v) (sub t (parent v))
      alike v m p = parted (link v) (tree.is_link v m p) ∙ beside t e v lt pt out m p ∙ sym (sub_step t v lt m p)

  pub outer :
      EndsBelow n G → (e f : ℕ) → e < length G → (OfTree n root link e → ⊥) → (OfTree n root link f → ⊥) → (S : ℕ → Bool) → Crossed G S e f → ⊥
  outer within e f le oe of S parted =
      false≢true (sym (mirrored within S (λ _. false) alike refl e le ∙ xor_self false) ∙ parted e le ∙ ap (λ (x : Bool). x || eqb e f) (eq-eqb e e refl))
    where
      alike : (v : ℕ) → v < n → v ≢ root → crosses G S (link v) ≡ xor false false
      alike v m p =
          parted (link v) (tree.is_link v m p) ∙
          or_from (eqb (link v) e) (eqb (link v) f) (ne_eqb (link v) e (λ q. oe (v, m, p, q))) (ne_eqb (link v) f (λ q. of (v, m, p, q))) ∙ sym (xor_self false)

pub brackets_tell : BracketsTell
brackets_tell g sound root rank parent link sub tree =
    record {
      inner = λ s t ls ps lt pt d.
          let p = shared (link s) (link t) (tree.is_link s ls ps) (tree.is_link t lt pt) (λ e. d (tree.apart s t ls ps lt pt e)) in
          (λ h. let r = p.0 h in same G n root rank parent link sub tree s t ls ps lt pt d within r.0 r.1, λ h. p.1 (parts G n root rank parent link sub tree s t ls ps lt pt d h));
      mixed = λ t e lt pt le oe.
          let p = shared (link t) e (tree.is_link t lt pt) le (λ q. oe (t, lt, pt, q)) in
          (λ h. let r = p.0 h in parts_lone G n root rank parent link sub tree within t e lt pt oe r.0 r.1, λ h. p.1 (sub t, lone_parts G n root rank parent link sub tree t e lt pt oe h));
      outer = λ e f le lf d oe of s. let p = (shared e f le lf d).0 s in outer G n root rank parent link sub tree within e f le oe of p.0 p.1;
    }
  where
    G : Links
    G = closed g

    n : ℕ
    n = g.steps

    within : EndsBelow g.steps (closed g)
    within = closed_within g sound

    shared : (a b : ℕ) → a < length (closed g) → b < length (closed g) → a ≢ b → (Share (closed g) a b ↔ ((S : ℕ → Bool) × Crossed (closed g) S a b))
    shared = share_is_cut g sound
