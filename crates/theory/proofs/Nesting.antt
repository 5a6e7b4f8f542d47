-- The sets of two pairs that do not share are apart, or one lies in the other.
use Rattle.std.proofs.Common.{◌≡◌, ℕ, ◌<◌, Bool, true, false, not, ◌&&◌, ◌⊎◌, length, sym, refl, ap, ◌∙◌, ap₂, inl, inr, arith, ◌≢◌}
use Rattle.std.proofs.lemmas.Bool.{cases_eq, cases_Bool, and_left, and_right, and_from, true_from_ne_false}
use Rattle.model.specs.Meaning.{tail_of, head_of, EndsBelow}
use Rattle.model.specs.Walks.{Links, Share}
use Rattle.theory.specs.Cuts.{Strong, Cut}
use Rattle.theory.proofs.Cuts.{cut_shares}
use Rattle.theory.proofs.Sides.{share_sym, share_trans, share_refl, NoOther, two_share, lone}

-- sets that have no step in common, and a set that lies in another
abbrev pub Disjoint : ℕ → (ℕ → Bool) → (ℕ → Bool) → Type 0
Disjoint n S T = (v : ℕ) → v < n → S v ≡ true → T v ≡ true → ⊥

abbrev pub Subset : ℕ → (ℕ → Bool) → (ℕ → Bool) → Type 0
Subset n S T = (v : ℕ) → v < n → S v ≡ true → T v ≡ true

abbrev same : Bool → Bool
same x = x

module _ (G : Links) (n a b c d : ℕ) (S T : ℕ → Bool) (within : EndsBelow n G) (strong : Strong n G)
    (la : a < length G) (lb : b < length G) (lc : c < length G) (ld : d < length G)
    (c_s : Cut G a b S) (c_t : Cut G c d T) (diff : Share G a c → ⊥) (z : ℕ) (lz : z < n) (sz : S z ≡ false) (tz : T z ≡ false) where
  sab : Share G a b
  sab = cut_shares G a b S c_s

  scd : Share G c d
  scd = cut_shares G c d T c_t

  no_ad : Share G a d → ⊥
  no_ad s = diff (share_trans G a d c s (share_sym G c d scd))

  no_bc : Share G b c → ⊥
  no_bc s = diff (share_trans G a b c sab s)

  no_bd : Share G b d → ⊥
  no_bd s = no_ad (share_trans G a b d sab s)

  -- a and b do not cross T, c and d do not cross S
  Ta : T (tail_of G a) ≡ T (head_of G a)
  Ta = c_t.others a la (λ e. diff (share_refl G a c e)) (λ e. no_ad (share_refl G a d e))

  Tb : T (tail_of G b) ≡ T (head_of G b)
  Tb = c_t.others b lb (λ e. no_bc (share_refl G b c e)) (λ e. no_bd (share_refl G b d e))

  Sc : S (tail_of G c) ≡ S (head_of G c)
  Sc = c_s.others c lc (λ e. diff (share_refl G a c (sym e))) (λ e. no_bc (share_refl G b c (sym e)))

  Sd : S (tail_of G d) ≡ S (head_of G d)
  Sd = c_s.others d ld (λ e. no_ad (share_refl G a d (sym e))) (λ e. no_bd (share_refl G b d (sym e)))

  -- a quarter: the steps that P of S and Q of T has
  abbrev quarter : (Bool → Bool) → (Bool → Bool) → ℕ → Bool
  quarter P Q v = P (S v) && Q (T v)

  -- what does not cross a quarter, beside x and y
  quarter_only : (P Q : Bool → Bool) (x y : ℕ) →
      (Q (T (tail_of G a)) ≡ false) ⊎ ((a ≡ x) ⊎ (a ≡ y)) → (Q (T (tail_of G b)) ≡ false) ⊎ ((b ≡ x) ⊎ (b ≡ y)) →
      (P (S (tail_of G c)) ≡ false) ⊎ ((c ≡ x) ⊎ (c ≡ y)) → (P (S (tail_of G d)) ≡ false) ⊎ ((d ≡ x) ⊎ (d ≡ y)) →
      NoOther G (quarter P Q) x y
  quarter_only P Q x y ha hb hc hd k l nx ny = pick (cases_eq k a) (cases_eq k b) (cases_eq k c) (cases_eq k d)
    where
      Still : ℕ → Type 0
      Still j = quarter P Q (tail_of G j) ≡ quarter P Q (head_of G j)

      -- a link that does not cross T, with its ends outside Q of T, does not cross the quarter; likewise for S
      by_T : (j : ℕ) → T (tail_of G j) ≡ T (head_of G j) → (Q (T (tail_of G j)) ≡ false) ⊎ ((j ≡ x) ⊎ (j ≡ y)) → j ≢ x → j ≢ y → Still j
      by_T j t q p r = let e = ap Q t in grind arith

      by_S : (j : ℕ) → S (tail_of G j) ≡ S (head_of G j) → (P (S (tail_of G j)) ≡ false) ⊎ ((j ≡ x) ⊎ (j ≡ y)) → j ≢ x → j ≢ y → Still j
      by_S j s q p r = let e = ap P s in grind arith

      pick : (k ≡ a) ⊎ (k ≡ a → ⊥) → (k ≡ b) ⊎ (k ≡ b → ⊥) → (k ≡ c) ⊎ (k ≡ c → ⊥) → (k ≡ d) ⊎ (k ≡ d → ⊥) → Still k
      pick (inl e) eb ec ed = rw e (by_T a Ta ha (rw e at nx) (rw e at ny))
      pick (inr na) (inl e) ec ed = rw e (by_T b Tb hb (rw e at nx) (rw e at ny))
      pick (inr na) (inr nb) (inl e) ed = rw e (by_S c Sc hc (rw e at nx) (rw e at ny))
      pick (inr na) (inr nb) (inr nc) (inl e) = rw e (by_S d Sd hd (rw e at nx) (rw e at ny))
      pick (inr na) (inr nb) (inr nc) (inr nd) = ap₂ (λ (s t : Bool). P s && Q t) (c_s.others k l na nb) (c_t.others k l nc nd)

  Goal : Type 0
  Goal = Disjoint n S T ⊎ (Subset n S T ⊎ Subset n T S)

  -- one link at most crosses the steps that are in both, in one, in the other, in none
  meet_empty : (e : ℕ) → NoOther G (quarter same same) e e → Disjoint n S T
  meet_empty e only v l s t =
      lone G n within strong (quarter same same) e (λ k l p. only k l p p) v z l lz (and_from (S v) (T v) s t) (and_left (S z) (T z) sz)

  left_empty : (e : ℕ) → NoOther G (quarter same not) e e → Subset n S T
  left_empty e only v l s =
      true_from_ne_false (T v) (λ t.
      lone G n within strong (quarter same not) e (λ k l p. only k l p p) v z l lz (and_from (S v) (not (T v)) s (ap not t)) (and_left (S z) (not (T z)) sz))

  right_empty : (e : ℕ) → NoOther G (quarter not same) e e → Subset n T S
  right_empty e only v l t =
      true_from_ne_false (S v) (λ s.
      lone G n within strong (quarter not same) e (λ k l p. only k l p p) v z l lz (and_from (not (S v)) (T v) (ap not s) t) (and_right (not (S z)) (T z) tz))

  all_out : (e : ℕ) → NoOther G (quarter not not) e e → Subset n S T
  all_out e only v l s =
      absurd (lone G n within strong (quarter not not) e (λ k l p. only k l p p) z v lz l (and_from (not (S z)) (not (T z)) (ap not sz) (ap not tz))
      (and_left (not (S v)) (not (T v)) (ap not s)))

  -- a step of both and z: the two links that cross the meet share
  meet_share : (x y : ℕ) → NoOther G (quarter same same) x y → (v : ℕ) → v < n → S v ≡ true → T v ≡ true → Share G x y
  meet_share x y only v l s t =
      two_share G n within strong (quarter same same) x y only v z l lz (and_from (S v) (T v) s t) (and_left (S z) (T z) sz)

  nested_by : (T (tail_of G a) ≡ true) ⊎ (T (tail_of G a) ≡ false) → (T (tail_of G b) ≡ true) ⊎ (T (tail_of G b) ≡ false) →
      (S (tail_of G c) ≡ true) ⊎ (S (tail_of G c) ≡ false) → (S (tail_of G d) ≡ true) ⊎ (S (tail_of G d) ≡ false) → Goal
  unfolding Goal
  nested_by (inl ta) (inl tb) (inl sc) δ =
      inr (inl (all_out d (quarter_only not not d d (inl (ap not ta)) (inl (ap not tb)) (inl (ap not sc)) (inr (inl refl)))))
  nested_by (inl ta) (inl tb) (inr sc) (inl sd) =
      inr (inl (all_out c (quarter_only not not c c (inl (ap not ta)) (inl (ap not tb)) (inr (inl refl)) (inl (ap not sd)))))
  nested_by (inl ta) (inl tb) (inr sc) (inr sd) =
      inr (inl (left_empty c (quarter_only same not c c (inl (ap not ta)) (inl (ap not tb)) (inl sc) (inl sd))))
  nested_by (inr ta) (inr tb) (inl sc) δ =
      inr (inr (right_empty d (quarter_only not same d d (inl ta) (inl tb) (inl (ap not sc)) (inr (inl refl)))))
  nested_by (inr ta) (inr tb) (inr sc) δ =
      inl (meet_empty d (quarter_only same same d d (inl ta) (inl tb) (inl sc) (inr (inl refl))))
  nested_by (inl ta) (inr tb) (inl sc) (inl sd) =
      inr (inl (all_out b (quarter_only not not b b (inl (ap not ta)) (inr (inl refl)) (inl (ap not sc)) (inl (ap not sd)))))
  nested_by (inl ta) (inr tb) (inr sc) (inr sd) =
      inr (inl (left_empty b (quarter_only same not b b (inl (ap not ta)) (inr (inl refl)) (inl sc) (inl sd))))
  nested_by (inl ta) (inr tb) (inl sc) (inr sd) =
      absurd (diff (meet_share a c (quarter_only same same a c (inr (inl refl)) (inl tb) (inr (inr refl)) (inl sd)) (head_of G a) (within a la).1 c_s.a_to (sym Ta ∙ ta)))
  nested_by (inl ta) (inr tb) (inr sc) (inl sd) =
      absurd (no_ad (meet_share a d (quarter_only same same a d (inr (inl refl)) (inl tb) (inl sc) (inr (inr refl))) (head_of G a) (within a la).1 c_s.a_to (sym Ta ∙ ta)))
  nested_by (inr ta) (inl tb) (inl sc) (inl sd) =
      inr (inl (all_out a (quarter_only not not a a (inr (inl refl)) (inl (ap not tb)) (inl (ap not sc)) (inl (ap not sd)))))
  nested_by (inr ta) (inl tb) (inr sc) (inr sd) =
      inr (inl (left_empty a (quarter_only same not a a (inr (inl refl)) (inl (ap not tb)) (inl sc) (inl sd))))
  nested_by (inr ta) (inl tb) (inl sc) (inr sd) =
      absurd (no_bc (meet_share b c (quarter_only same same b c (inl ta) (inr (inl refl)) (inr (inr refl)) (inl sd)) (tail_of G b) (within b lb).0 c_s.b_from tb))
  nested_by (inr ta) (inl tb) (inr sc) (inl sd) =
      absurd (no_bd (meet_share b d (quarter_only same same b d (inl ta) (inr (inl refl)) (inl sc) (inr (inr refl))) (tail_of G b) (within b lb).0 c_s.b_from tb))

pub nested :
    (G : Links) (n a b c d : ℕ) (S T : ℕ → Bool) → EndsBelow n G → Strong n G → a < length G → b < length G → c < length G → d < length G →
    Cut G a b S → Cut G c d T → (Share G a c → ⊥) → (z : ℕ) → z < n → S z ≡ false → T z ≡ false →
    Disjoint n S T ⊎ (Subset n S T ⊎ Subset n T S)
unfolding Goal
nested G n a b c d S T within strong la lb lc ld c_s c_t diff z lz sz tz =
    nested_by G n a b c d S T within strong la lb lc ld c_s c_t diff z lz sz tz
    (cases_Bool (T (tail_of G a))) (cases_Bool (T (tail_of G b))) (cases_Bool (S (tail_of G c))) (cases_Bool (S (tail_of G d)))
