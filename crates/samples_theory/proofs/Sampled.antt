-- The samples, by computing.
use Rattle.std.proofs.Common.{◌≡◌, ℕ, ◌<◌, Bool, true, not, ◌&&◌, eqb, ltb, leb, List, [], ◌∷◌, length, get_or, refl, arith}
use Rattle.std.proofs.lemmas.Bool.Decides.{nat_tests}
use Rattle.std.proofs.lemmas.Bool.{both_ways, and_parts, not-true, ltb-true}
use Rattle.model.specs.Meaning.{Graph, Meaning, Limits}
use Rattle.model.specs.Walks.{closed, Share, ClassName, Sound}
use Rattle.theory.specs.Tests.{relax, sweep, rounds, reached, reach, shareb, each_below}
use Rattle.theory.proofs.Unique.{kind_at}
use Rattle.theory.proofs.Tells.{each_at}
use Rattle.theory.proofs.Parts.{leadsb, thirdb, canonicalb, inb, holdsb, size, t_share}
use Rattle.samples_theory.specs.Samples.{Sample, plan5, rows5, samples, turned_samples, Stands, AllStand, SamplesStand, none}
use Rattle.samples_theory.proofs.Checks.{soundb, sound_by, same, logicb, branchb, opensb, closesb, takenb, ownb, onlyb, meshb, fitsb, kindb}
use Rattle.samples_theory.proofs.Listed.{is_none, properb, place_of, listedb, hold, parentb, same_parent, risesb, listingb, listing_by}
use Rattle.samples_theory.proofs.Calling.{is_some, has_slip, clashb, blocksb, rightb, answeredb, answered_by}

-- classes
unfoldable pub classb : Graph → ℕ → ℕ → Bool
classb g l c = ltb c (length g.links) && (shareb (closed g) g.steps c l && each_below (λ k. not (shareb (closed g) g.steps k l)) c)

pub class_by : (g : Graph) → Sound g → (l c : ℕ) → l < length g.links → classb g l c ≡ true → ClassName g l c
unfolding classb
class_by g sound l c ll e =
    let f : ℕ → Bool = λ k. not (shareb (closed g) g.steps k l) in
    let h = and_parts (ltb c (length g.links)) (shareb (closed g) g.steps c l && each_below f c) e in
    let q = and_parts (shareb (closed g) g.steps c l) (each_below f c) h.1 in
    let lc = ltb-true c (length g.links) h.0 in
    record { is_link = lc; shares = (t_share g sound c l lc ll).0 q.0; smallest = λ k lk s. let less = none k lk s q.1 in omega arith }
  where
    none : (k : ℕ) → k < length g.links → Share (closed g) k l → each_below (λ k. not (shareb (closed g) g.steps k l)) c ≡ true → k < c → ⊥
    none k lk s q h =
        both_ways (shareb (closed g) g.steps k l) (not-true (shareb (closed g) g.steps k l) (each_at (λ k. not (shareb (closed g) g.steps k l)) c q k h))
        ((t_share g sound k l lk ll).1 s)

-- limits, of a sound plan
unfoldable pub limitsb : Meaning → Bool
limitsb μ =
    leb 2 μ.graph.steps && (leb μ.graph.steps 1024 && (leb 1 (length μ.graph.links) && (leb (length μ.graph.links) 2048 &&
    (not (eqb μ.graph.first μ.graph.last) && eqb (length μ.logics) μ.graph.steps))))

limits_by : (μ : Meaning) → Sound μ.graph → limitsb μ ≡ true → Limits μ
unfolding limitsb
limits_by μ sound e =
    record {
      some_steps = grind (arith, nat_tests);
      few_steps = grind (arith, nat_tests);
      some_links = grind (arith, nat_tests);
      few_links = grind (arith, nat_tests);
      ends_below = sound.within;
      first_below = sound.begins;
      last_below = sound.ends;
      apart = grind (arith, nat_tests);
      logic_each = grind (arith, nat_tests);
    }

-- the plan with its rows and classes, then the calls
unfoldable pub planb : Sample → Bool
planb x =
    soundb x.plan.graph && (limitsb x.plan && (listingb x.plan x.rows &&
    each_below (λ l. classb x.plan.graph l (get_or x.classes l 0)) (length x.plan.graph.links)))

unfoldable pub sampleb : Sample → ℕ → Bool
sampleb x h = planb x && answeredb x.plan.graph x.rows (x.calls h)

sample_by : (x : Sample) → ((h : ℕ) → sampleb x h ≡ true) → Stands x
unfolding sampleb planb
sample_by x e = stands (and_parts (planb x) (answeredb x.plan.graph x.rows (x.calls 0)) (e 0)).0
  where
    stands : planb x ≡ true → Stands x
    stands p =
        let a = and_parts _ _ p in
        let b = and_parts _ _ a.1 in
        let c = and_parts _ _ b.1 in
        let sound = sound_by x.plan.graph a.0 in
        let listing = listing_by x.plan sound x.rows c.0 in
        record {
          limits = limits_by x.plan sound b.0;
          sound = sound;
          listing = listing;
          classes = λ l ll. class_by x.plan.graph sound l (get_or x.classes l 0) ll (each_at (λ l. classb x.plan.graph l (get_or x.classes l 0)) (length x.plan.graph.links) c.1 l ll);
          answered = λ h. answered_by x.plan sound x.rows listing (x.calls h) (and_parts (planb x) (answeredb x.plan.graph x.rows (x.calls h)) (e h)).1;
        }

unfoldable pub allb : List Sample → ℕ → Bool
allb [] h = true
allb (x ∷ xs) h = sampleb x h && allb xs h

pub all_by : (xs : List Sample) → ((h : ℕ) → allb xs h ≡ true) → AllStand xs
unfolding allb
all_by [] e = tt
all_by (x ∷ xs) e = (sample_by x (λ h. (and_parts (sampleb x h) (allb xs h) (e h)).0), all_by xs (λ h. (and_parts (sampleb x h) (allb xs h) (e h)).1))

computed : (h : ℕ) → (allb samples h ≡ true) × (allb turned_samples h ≡ true)
unfolding allb sampleb planb classb limitsb soundb listingb is_none properb place_of listedb hold parentb same_parent risesb same logicb branchb opensb closesb takenb ownb onlyb meshb fitsb kindb kind_at leadsb thirdb canonicalb inb holdsb size shareb reach reached rounds sweep relax each_below is_some has_slip clashb blocksb rightb answeredb
computed h = (refl, refl)

pub samples_stand : SamplesStand
samples_stand = (all_by samples (λ h. (computed h).0), all_by turned_samples (λ h. (computed h).1))

pub five : Stands (record { plan = plan5; rows = rows5; classes = 0 ∷ 1 ∷ 1 ∷ 3 ∷ 3 ∷ 0 ∷ []; calls = none })
five = samples_stand.0.1.1.1.1.0
