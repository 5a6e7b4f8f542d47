-- A step that does not branch is alone in a fragment.
use Rattle.std.proofs.Common.{◌≡◌, ℕ, zero, suc, ◌<◌, ◌≤◌, Bool, true, eqb, ◌≢◌, ◌⊎◌, ◌↔◌, List, [], ◌∷◌, ◌++◌, length, sym, refl, ap, ◌∙◌, subst, inl, inr, arith}
use Rattle.std.proofs.Math.Nat.{ℕ_set}
use mathlib.Core.Logic.{∥∥₁_elim, ∥∥₁_map}
use Rattle.std.proofs.lemmas.Bool.{cases_eq, cases_lt, eq-eqb, ne_eqb}
use Rattle.model.specs.Meaning.{Graph, tail_of, head_of}
use Rattle.model.specs.Walks.{Links, closed, Walks, Passes, Share, Leads, Canonical, Inside, Sound}
use Rattle.model.specs.Parts.{fragment, In, how_many, Counted}
use Rattle.model.specs.Kinds.{ins, outs, Branches}
use Rattle.theory.specs.Tests.{reach}
use Rattle.theory.specs.Cuts.{Cut}
use Rattle.theory.specs.Insides.{PlainAlone, OwnBranches}
use Rattle.theory.proofs.Walks.{Avoids, avoids_no, passes_append, passes_right, walks_append, until}
use Rattle.theory.proofs.Cuts.{cut_shares}
use Rattle.theory.proofs.Cutting.{walk_of}
use Rattle.theory.proofs.Plans.{more, lift_tail, lift_head, back_tail, back_head}
use Rattle.theory.proofs.Lines.{leads_by}
use Rattle.theory.proofs.Insides.{decided, neither, inside_step}
use Rattle.theory.proofs.Counting.{exactly_all}

-- one that passes is counted, and where at most one is counted, two that pass are one
counted : (t : ℕ → Bool) (n k : ℕ) → k < n → t k ≡ true → 1 ≤ how_many t n
counted t zero k l e = absurd (omega arith)
counted t (suc n) k l e = let rest = counted t n k in grind (arith, cases_eq k n)

single : (t : ℕ → Bool) (n : ℕ) → how_many t n ≤ 1 → (i j : ℕ) → i < n → j < n → t i ≡ true → t j ≡ true → i ≡ j
single t zero few i j li lj e f = absurd (omega arith)
single t (suc n) few i j li lj e f =
    let ci = counted t n i in
    let cj = counted t n j in
    let rest = single t n (omega arith) i j in
    grind (arith, cases_eq i n, cases_eq j n)

-- the last link of a walk, and the first
last_link : (G : Links) (u v : ℕ) (ks : List ℕ) → Walks G u ks v → u ≢ v → (k : ℕ) × (k < length G) × (head_of G k ≡ v) × Passes k ks
last_link G u v [] w d = absurd (d w)
last_link G u v (k ∷ ks) w d = pick (cases_eq (head_of G k) v) (last_link G (head_of G k) v ks w.2)
  where
    pick : (head_of G k ≡ v) ⊎ (head_of G k ≡ v → ⊥) → (head_of G k ≢ v → (j : ℕ) × (j < length G) × (head_of G j ≡ v) × Passes j ks) →
        (j : ℕ) × (j < length G) × (head_of G j ≡ v) × Passes j (k ∷ ks)
    pick (inl e) rest = (k, w.0, e, inl refl)
    pick (inr n) rest = let r = rest n in (r.0, r.1, r.2, inr r.3)

first_link : (G : Links) (u v : ℕ) (ks : List ℕ) → Walks G u ks v → u ≢ v → (k : ℕ) × (k < length G) × (tail_of G k ≡ u)
first_link G u v [] w d = absurd (d w)
first_link G u v (k ∷ ks) w d = (k, w.0, w.1)

module _ (g : Graph) (sound : Sound g) (s : ℕ) (ls : s < g.steps) (not_first : s ≢ g.first) (not_last : s ≢ g.last) (plain : Branches g s → ⊥) where
  abbrev G : Links
  G = g.links

  few_in : ins g s ≤ 1
  few_in = let p : (2 ≤ ins g s) → ⊥ = λ l. plain (inl l) in omega arith

  few_out : outs g s ≤ 1
  few_out = let p : (2 ≤ outs g s) → ⊥ = λ l. plain (inr l) in omega arith

  to : (ks : List ℕ) × Walks g.links g.first ks s
  to = walk_of g.links g.steps g.first s sound.within sound.begins (∥∥₁_map (sound.between s ls) (λ p. (p.0, p.2)))

  from : (ks : List ℕ) × Walks g.links s ks g.last
  from = walk_of g.links g.steps s g.last sound.within ls (∥∥₁_map (sound.between s ls) (λ p. (p.1, p.3)))

  entry : (k : ℕ) × (k < length g.links) × (head_of g.links k ≡ s) × Passes k to.0
  entry = last_link g.links g.first s to.0 to.1 (λ e. not_first (sym e))

  exit : (k : ℕ) × (k < length g.links) × (tail_of g.links k ≡ s)
  exit = first_link g.links s g.last from.0 from.1 not_last

  abbrev a : ℕ
  a = entry.0

  abbrev b : ℕ
  b = exit.0

  -- no other link enters the step, and no other leaves it
  enters_by : (k : ℕ) → k < length g.links → head_of g.links k ≡ s → k ≡ entry.0
  enters_by k l e =
      single (λ j. eqb (head_of g.links j) s) (length g.links) few_in k entry.0 l entry.1 (eq-eqb (head_of g.links k) s e) (eq-eqb (head_of g.links entry.0) s entry.2)

  leaves_by : (k : ℕ) → k < length g.links → tail_of g.links k ≡ s → k ≡ exit.0
  leaves_by k l e =
      single (λ j. eqb (tail_of g.links j) s) (length g.links) few_out k exit.0 l exit.1 (eq-eqb (tail_of g.links k) s e) (eq-eqb (tail_of g.links exit.0) s exit.2)

  differ : entry.0 ≢ exit.0
  differ e =
      let w = until g.links g.first b to.0 (subst (λ (x : ℕ). Walks g.links g.first to.0 x) (sym exit.2) to.1) in
      let k = last_link g.links g.first s w.0 (subst (λ (x : ℕ). Walks g.links g.first w.0 x) exit.2 w.1) (λ q. not_first (sym q)) in
      avoids_no b w.0 w.2 (subst (λ (x : ℕ). Passes x w.0) (enters_by k.0 k.1 k.2 ∙ e) k.3)

  Alone : ℕ → Bool
  Alone v = eqb v s

  cut : Cut (closed g) entry.0 exit.0 Alone
  unfolding Alone
  cut =
      record {
        a_from = ne_eqb (tail_of (closed g) a) s (λ e. differ (leaves_by a entry.1 (sym (lift_tail g a entry.1) ∙ e)));
        a_to = eq-eqb (head_of (closed g) a) s (lift_head g a entry.1 ∙ entry.2);
        b_from = eq-eqb (tail_of (closed g) b) s (lift_tail g b exit.1 ∙ exit.2);
        b_to = ne_eqb (head_of (closed g) b) s (λ e. differ (sym (enters_by b exit.1 (sym (lift_head g b exit.1) ∙ e))));
        others = λ k l na nb. still k l na nb (cases_eq k (length g.links));
      }
    where
      both : (x y : ℕ) → x ≢ s → y ≢ s → eqb x s ≡ eqb y s
      both x y p q = ne_eqb x s p ∙ sym (ne_eqb y s q)

      still :
          (k : ℕ) → k < length (closed g) → k ≢ entry.0 → k ≢ exit.0 → (k ≡ length g.links) ⊎ (k ≡ length g.links → ⊥) →
          eqb (tail_of (closed g) k) s ≡ eqb (head_of (closed g) k) s
      still k l na nb (inl e) =
          both (tail_of (closed g) k) (head_of (closed g) k) (λ q. not_last (sym q ∙ ap (tail_of (closed g)) e ∙ back_tail g)) (λ q. not_first (sym q ∙ ap (head_of (closed g)) e ∙ back_head g))
      still k l na nb (inr d) =
          let lk : k < length g.links = omega (arith, more g) in
          both (tail_of (closed g) k) (head_of (closed g) k) (λ q. nb (leaves_by k lk (sym (lift_tail g k lk) ∙ q))) (λ q. na (enters_by k lk (sym (lift_head g k lk) ∙ q)))

  leads : Leads g entry.0 exit.0
  unfolding Alone
  leads = leads_by g sound a b differ entry.1 exit.1 Alone cut (ne_eqb g.first s (λ e. not_first (sym e)))

  -- a walk that comes in by a and leaves by b meets no third link of which a is the leader
  no_third : (x : ℕ) → Share (closed g) entry.0 x → Leads g entry.0 x → Leads g x exit.0 → ⊥
  no_third x _ l r = through (until g.links g.first a ks (walk))
    where
      way : (ks : List ℕ) × Walks g.links g.first ks (tail_of g.links entry.0)
      way = walk_of g.links g.steps g.first (tail_of g.links a) sound.within sound.begins (∥∥₁_map (sound.between (tail_of g.links a) (sound.within a entry.1).0) (λ p. (p.0, p.2)))

      ks : List ℕ
      ks = way.0

      walk : Walks g.links g.first ks (tail_of g.links entry.0)
      walk = way.1

      through : (js : List ℕ) × Walks g.links g.first js (tail_of g.links entry.0) × Avoids entry.0 js → ⊥
      through u =
          let t = tail_of g.links a in
          let h = head_of g.links b in
          let w : Walks g.links g.first (u.0 ++ (a ∷ b ∷ [])) h =
          walks_append g.links g.first t h u.0 (a ∷ b ∷ []) u.1 (entry.1, refl, (exit.1, exit.2 ∙ sym entry.2, refl)) in
          where_is u.0 u.1 u.2 (passes_append x u.0 (a ∷ b ∷ []) (r.3 h (u.0 ++ (a ∷ b ∷ [])) w (passes_right b u.0 (a ∷ b ∷ []) (inr (inl refl)))))
        where
          where_is :
              (js : List ℕ) → Walks g.links g.first js (tail_of g.links entry.0) → Avoids entry.0 js → Passes x js ⊎
              Passes x (entry.0 ∷ exit.0 ∷ []) → ⊥
          where_is js w h (inl p) = avoids_no entry.0 js h (l.3 (tail_of g.links entry.0) js w p)
          where_is js w h (inr (inl e)) = l.0 (sym e)
          where_is js w h (inr (inr (inl e))) = r.0 e
          where_is js w h (inr (inr (inr e))) = e

  canonical : Canonical g entry.0 exit.0
  canonical = record { pair = record { shares = cut_shares (closed g) a b Alone cut; leads = leads }; no_third = no_third }

  stuck : (v : ℕ) (ks : List ℕ) → Walks g.links s ks v → (Passes exit.0 ks → ⊥) → v ≡ s
  stuck v [] w h = sym w
  stuck v (k ∷ ks) w h = absurd (h (inl (sym (leaves_by k w.0 w.1))))

  alone : (v : ℕ) → (Inside g entry.0 exit.0 v ↔ (v ≡ s))
  alone v = (λ i. ∥∥₁_elim i (ℕ_set v s) (λ p. stuck v p.0 (subst (λ (x : ℕ). Walks g.links x p.0 v) entry.2 p.1) p.2), λ e. ∣ ([], entry.2 ∙ sym e, λ p. p) ∣₁)

pub plain_alone : PlainAlone
plain_alone g sound s ls nf nl plain = ((entry g sound s ls nf nl plain).0, (exit g sound s ls nf nl plain).0, canonical g sound s ls nf nl plain, alone g sound s ls nf nl plain)

-- how many steps are inside a fragment
how_large : (g : Graph) → Sound g → (a b : ℕ) → Canonical g a b → (k : ℕ) × Counted g (fragment a b) k
how_large g sound a b c = (how_many test g.steps, (test, λ s l. ((decided g sound a b c.pair s).1, (decided g sound a b c.pair s).0), refl))
  where
    test : ℕ → Bool
    test s = reach g.links g.steps b (head_of g.links a) s

pub own_branches : OwnBranches
own_branches g sound a b s c own plain v i =
    let out = neither g sound a b c.pair in
    let p = plain_alone g sound s (inside_step g sound a b s c.pair.leads.1 own.inside) (λ e. out.0 (subst (Inside g a b) e own.inside)) (λ e. out.1 (subst (Inside g a b) e own.inside)) plain in
    small p.0 p.1 p.2 p.3
  where
    small : (x y : ℕ) → Canonical g x y → ((w : ℕ) → (Inside g x y w ↔ (w ≡ s))) → v ≡ s
    small x y d told =
        let j = how_large g sound x y d in
        let k = how_large g sound a b c in
        pick j.0 k.0 j.1 k.1 (cases_lt j.0 k.0)
      where
        lies : (w : ℕ) → Inside g x y w → Inside g a b w
        lies w h = subst (Inside g a b) (sym ((told w).0 h)) own.inside

        pick : (j k : ℕ) → Counted g (fragment x y) j → Counted g (fragment a b) k → (j < k) ⊎ (k ≤ j) → v ≡ s
        pick j k cj ck (inl l) = absurd (own.innermost x y d (j, k, cj, ck, l) ((told s).1 refl))
        pick j k cj ck (inr l) =
            (told v).0 (exactly_all g.steps j k (In g (fragment x y)) (In g (fragment a b)) cj ck (λ w _ h. lies w h) l v (inside_step g sound a b v c.pair.leads.1 i) i)
