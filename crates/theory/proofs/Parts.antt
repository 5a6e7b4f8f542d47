-- Canonical fragments, what is inside them, and how many, by computing.
use Rattle.std.proofs.Common.{◌≡◌, ℕ, ◌<◌, Bool, true, false, not, ◌&&◌, ◌||◌, eqb, ltb, List, ◌∷◌, length, sym, refl, subst, arith, Decides}
use Rattle.std.proofs.lemmas.Bool.Decides.{nat_tests}
use Rattle.std.proofs.lemmas.Bool.{both_ways, and_parts, and_from, not-true, not_from_false, eqb-true, eq-eqb, eqb-false, ltb-true, lt-ltb, false_from_ne_true}
use Rattle.model.specs.Meaning.{Graph, tail_of, head_of}
use Rattle.model.specs.Walks.{closed, Walks, Passes, Share, Leads, Canonical, Sound}
use Rattle.model.specs.Parts.{Part, whole, fragment, In, Proper, Holds, how_many, Exactly, Counted}
use Rattle.theory.specs.Tests.{reach, shareb, each_below}
use Rattle.theory.proofs.Walks.{avoids_no, passes_left, split, leader_passed}
use Rattle.theory.proofs.Reach.{reach_walk, passes_by}
use Rattle.theory.proofs.Decide.{share_decided}
use Rattle.theory.proofs.Plans.{more, closed_within}
use Rattle.theory.proofs.Insides.{decided, step}
use Rattle.theory.proofs.Counting.{exactly_le}
use Rattle.theory.proofs.Tells.{t_imp, each_at, each_from, t_each}

unfoldable pub leadsb : Graph → ℕ → ℕ → Bool
leadsb g a b = not (eqb a b) && (ltb a (length g.links) && (ltb b (length g.links) && not (reach g.links g.steps a g.first (tail_of g.links b))))

unfoldable pub thirdb : Graph → ℕ → ℕ → ℕ → Bool
thirdb g a b x = leadsb g a x && (leadsb g x b && shareb (closed g) g.steps a x)

unfoldable pub canonicalb : Graph → ℕ → ℕ → Bool
canonicalb g a b = leadsb g a b && (shareb (closed g) g.steps a b && each_below (λ x. not (thirdb g a b x)) (length g.links))

unfoldable pub inb : Graph → Part → ℕ → Bool
inb g whole s = ltb s g.steps
inb g (fragment a b) s = reach g.links g.steps b (head_of g.links a) s

unfoldable pub holdsb : Graph → Part → Part → Bool
holdsb g p q = each_below (λ s. not (inb g q s) || inb g p s) g.steps

unfoldable pub size : Graph → Part → ℕ
size g p = how_many (inb g p) g.steps

module _ (g : Graph) (sound : Sound g) where
  -- a walk that comes round a does not reach b
  through : (a b : ℕ) → reach g.links g.steps a g.first (tail_of g.links b) ≡ false →
      (v : ℕ) (ks : List ℕ) → Walks g.links g.first ks v → Passes b ks → Passes a ks
  through a b out v ks w p =
      let s = split g.links g.first v b ks w p in
      let p = passes_by g.links a g.steps g.first (tail_of g.links b) sound.within sound.begins out s.before s.to in
      subst (Passes a) (sym s.is) (passes_left a s.before (b ∷ s.after) p)

  pub t_leads : (a b : ℕ) → Decides (leadsb g a b) (Leads g a b)
  unfolding leadsb
  t_leads a b = (there, back)
    where
      r : Bool
      r = reach g.links g.steps a g.first (tail_of g.links b)

      there : (not (eqb a b) && (ltb a (length g.links) && (ltb b (length g.links) && not r))) ≡ true → Leads g a b
      there e =
          let p = and_parts (not (eqb a b)) (ltb a (length g.links) && (ltb b (length g.links) && not r)) e in
          let q = and_parts (ltb a (length g.links)) (ltb b (length g.links) && not r) p.1 in
          let s = and_parts (ltb b (length g.links)) (not r) q.1 in
          (eqb-false a b (not-true (eqb a b) p.0), ltb-true a (length g.links) q.0, ltb-true b (length g.links) s.0, through a b (not-true r s.1))

      none : Leads g a b → r ≡ true → ⊥
      none l e =
          let w = reach_walk g.links a g.steps g.first (tail_of g.links b) e in
          avoids_no a w.0 w.2 (leader_passed g a b l w.0 w.1)

      back : Leads g a b → (not (eqb a b) && (ltb a (length g.links) && (ltb b (length g.links) && not r))) ≡ true
      back l = let out = false_from_ne_true r (none l) in grind (arith, nat_tests)

  pub t_share : (a b : ℕ) → a < length g.links → b < length g.links → Decides (shareb (closed g) g.steps a b) (Share (closed g) a b)
  t_share a b la lb = share_decided (closed g) g.steps a b (closed_within g sound) (omega (arith, more g)) (omega (arith, more g))

  t_third : (a b x : ℕ) → Decides (thirdb g a b x) (Leads g a x × Leads g x b × Share (closed g) a x)
  unfolding thirdb
  t_third a b x =
      let l = t_leads a x in
      let m = t_leads x b in
      let s : a < length g.links → x < length g.links → Decides (shareb (closed g) g.steps a x) (Share (closed g) a x) = t_share a x in
      grind arith

  pub t_canonical : (a b : ℕ) → Decides (canonicalb g a b) (Canonical g a b)
  unfolding canonicalb
  t_canonical a b = (there, back)
    where
      sh : Bool
      sh = shareb (closed g) g.steps a b

      th : Bool
      th = each_below (λ x. not (thirdb g a b x)) (length g.links)

      there : (leadsb g a b && (sh && th)) ≡ true → Canonical g a b
      there e =
          let p = and_parts (leadsb g a b) (sh && th) e in
          let q = and_parts sh th p.1 in
          let l = (t_leads a b).0 p.0 in
          record {
            pair = record { shares = (t_share a b l.1 l.2).0 q.0; leads = l };
            no_third = λ x s u v.
                both_ways (thirdb g a b x) (not-true (thirdb g a b x) (each_at (λ x. not (thirdb g a b x)) (length g.links) q.1 x u.2)) ((t_third a b x).1 (u, v, s));
          }

      back : Canonical g a b → (leadsb g a b && (sh && th)) ≡ true
      back c =
          and_from (leadsb g a b) (sh && th) ((t_leads a b).1 c.pair.leads)
          (and_from sh th ((t_share a b c.pair.leads.1 c.pair.leads.2).1 c.pair.shares)
          (each_from (λ x. not (thirdb g a b x)) (length g.links)
          (λ x l. not_from_false (thirdb g a b x) (false_from_ne_true (thirdb g a b x) (λ e.
          let h = (t_third a b x).0 e in
          c.no_third x h.2 h.0 h.1)))))

  pub t_in : (p : Part) → Proper g p → (s : ℕ) → Decides (inb g p s) (In g p s)
  unfolding inb
  t_in whole c s = (ltb-true s g.steps, lt-ltb s g.steps)
  t_in (fragment a b) c s = let d = decided g sound a b c.pair s in (d.1, d.0)

  pub t_holds : (p q : Part) → Proper g p → Proper g q → Decides (holdsb g p q) (Holds g p q)
  unfolding holdsb
  t_holds p q cp cq =
      t_each (λ s. not (inb g q s) || inb g p s) g.steps (In g q) (In g p) (step g sound q cq)
      (λ s l. t_imp (inb g q s) (inb g p s) (In g q s) (In g p s) (t_in q cq s) (t_in p cp s))

-- a count, given a test
pub t_exactly : (t : ℕ → Bool) (n k : ℕ) (P : ℕ → Type 0) → ((s : ℕ) → s < n → Decides (t s) (P s)) → Decides (eqb (how_many t n) k) (Exactly k n P)
t_exactly t n k P h = (
  λ e. (t, h, eqb-true (how_many t n) k e),
  λ x. let a = exactly_le n (how_many t n) k P P (t, h, refl) x (λ s _ i. i) in
      let b = exactly_le n k (how_many t n) P P x (t, h, refl) (λ s _ i. i) in
      eq-eqb (how_many t n) k (omega arith),
)

pub t_size : (g : Graph) → Sound g → (p : Part) → Proper g p → (k : ℕ) → Decides (eqb (size g p) k) (Counted g p k)
unfolding size
t_size g sound p c k = t_exactly (inb g p) g.steps k (In g p) (λ s l. t_in g sound p c s)
