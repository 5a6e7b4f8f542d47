-- The second look, by computing.
use Rattle.std.proofs.Common.{◌≡◌, ℕ, ◌<◌, true, false, List, [], ◌∷◌, length, refl, inl, inr, arith, lit<, lit≤, Decides}
use Rattle.std.proofs.lemmas.Bool.Decides.{not_from_Decides}
use mathlib.Core.Logic.{∥∥₁_elim}
use mathlib.Core.HLevel.{⊥_prop}
use Rattle.model.specs.Meaning.{Graph, head_of}
use Rattle.model.specs.Walks.{Links, closed, Walks, Passes, Share, Sound}
use Rattle.model.specs.Parts.{fragment}
use Rattle.theory.specs.Tests.{relax, sweep, rounds, reached, reach, shareb, each_below}
use Rattle.theory.proofs.Reach.{passes_by}
use Rattle.theory.proofs.Decide.{share_decided}
use Rattle.theory.proofs.Plans.{closed_within}
use Rattle.theory.proofs.Unique.{kind_at, proper}
use Rattle.theory.proofs.Parts.{leadsb, thirdb, canonicalb, inb, holdsb, size, t_leads, t_share, t_canonical, t_in}
use Rattle.samples_theory.specs.Samples.{plan5, rows5, plan6, AllStand, of_one}
use Rattle.samples_theory.specs.Second.{InsideNotDominance, plan4, PairNotCanonical, ClassesDiffer, BothAreNeeded, plan1, ReturnNamesNone, EqualEndsBranch, OwnIsMore, SoundnessRefuses, interleaved, ClassesInterleave, by_entry, deep, kinds, FurtherStand}
use Rattle.samples_theory.proofs.Checks.{soundb, sound_by, same, logicb, branchb, opensb, closesb, takenb, ownb, Covers, t_own, onlyb, meshb, fitsb, kindb}
use Rattle.samples_theory.proofs.Listed.{is_none, properb, place_of, listedb, hold, parentb, same_parent, risesb, listingb}
use Rattle.samples_theory.proofs.Calling.{is_some, has_slip, clashb, blocksb, rightb, answeredb}
use Rattle.samples_theory.proofs.Sampled.{classb, class_by, limitsb, planb, sampleb, allb, all_by, five}

-- a link of the plan and one of the closed plan
share_by :
    (g : Graph) → Sound g → (a b : ℕ) → a < length (closed g) → b < length (closed g) → Decides (shareb (closed g) g.steps a b) (Share (closed g) a b)
share_by g sound a b la lb = share_decided (closed g) g.steps a b (closed_within g sound) la lb

sound4 : Sound plan4.graph
unfolding soundb reach reached rounds sweep relax each_below
sound4 = sound_by plan4.graph refl

sound1 : Sound plan1.graph
unfolding soundb reach reached rounds sweep relax each_below
sound1 = sound_by plan1.graph refl

sound6 : Sound plan6.graph
unfolding soundb reach reached rounds sweep relax each_below
sound6 = sound_by plan6.graph refl

pub inside_not_dominance : InsideNotDominance
unfolding canonicalb leadsb thirdb shareb inb reach reached rounds sweep relax each_below
inside_not_dominance =
    let c = (t_canonical plan6.graph sound6 1 2).0 refl in
    record {
      canonical = c;
      before = passes_by plan6.graph.links 1 6 0 4 sound6.within (lit< tt) refl;
      behind = passes_by plan6.graph.links 2 6 4 5 sound6.within (lit< tt) refl;
      outside = not_from_Decides (inb plan6.graph (fragment 1 2) 4) (t_in plan6.graph sound6 (fragment 1 2) c 4) refl;
    }

pub pair_not_canonical : PairNotCanonical
unfolding canonicalb leadsb thirdb shareb reach reached rounds sweep relax each_below
pair_not_canonical = (
  record { shares = (t_share plan4.graph sound4 0 2 (lit< tt) (lit< tt)).0 refl; leads = (t_leads plan4.graph sound4 0 2).0 refl },
  not_from_Decides (canonicalb plan4.graph 0 2) (t_canonical plan4.graph sound4 0 2) refl,
)

pub classes_differ : ClassesDiffer
unfolding shareb reach reached rounds sweep relax
classes_differ = (
  (t_share plan5.graph five.sound 1 2 (lit< tt) (lit< tt)).0 refl,
  not_from_Decides (shareb (closed plan5.graph) 6 1 3) (t_share plan5.graph five.sound 1 3 (lit< tt) (lit< tt)) refl,
)

pub both_are_needed : BothAreNeeded
unfolding leadsb shareb reach reached rounds sweep relax
both_are_needed = (
  (t_leads plan6.graph sound6 1 3).0 refl,
  not_from_Decides (shareb (closed plan6.graph) 6 1 3) (t_share plan6.graph sound6 1 3 (lit< tt) (lit< tt)) refl,
  (t_share plan6.graph sound6 2 1 (lit< tt) (lit< tt)).0 refl,
  not_from_Decides (leadsb plan6.graph 2 1) (t_leads plan6.graph sound6 2 1) refl,
)

pub return_names_none : ReturnNamesNone
unfolding classb shareb reach reached rounds sweep relax each_below
return_names_none = ((share_by plan1.graph sound1 0 1 (lit< tt) (lit< tt)).0 refl, class_by plan1.graph sound1 0 0 (lit< tt) refl)

pub equal_ends_branch : EqualEndsBranch
equal_ends_branch = (inl (lit≤ tt), (λ o. let e = o.0 in omega arith), λ c. let e = c.1 in omega arith)

covers5 : Covers plan5.graph rows5
covers5 = record { proper = proper plan5 five.sound rows5 five.listing; listed = five.listing.listed }

pub own_is_more : OwnIsMore
unfolding canonicalb leadsb thirdb ownb takenb inb size shareb reach reached rounds sweep relax each_below
own_is_more =
    let g = plan5.graph in
    let c = (t_canonical plan5.graph five.sound 0 5).0 refl in (
      (t_own plan5.graph five.sound rows5 covers5 (fragment 0 5) c 1).0 refl,
      (t_in plan5.graph five.sound (fragment 0 5) c 2).0 refl,
      not_from_Decides (ownb plan5.graph rows5 (fragment 0 5) 2) (t_own plan5.graph five.sound rows5 covers5 (fragment 0 5) c 2) refl,
    )

-- no walk passes a link past the last
past : (G : Links) (u v : ℕ) (ks : List ℕ) → Walks G u ks v → Passes (length G) ks → ⊥
past G u v [] w p = p
past G u v (k ∷ ks) w (inl e) = let l = w.0 in omega arith
past G u v (k ∷ ks) w (inr p) = past G (head_of G k) v ks w.2 p

-- a step that no walk joins to first or to last
unreached : (g : Graph) (s : ℕ) → s < g.steps → reach g.links g.steps (length g.links) g.first s ≡ false → Sound g → ⊥
unreached g s l e sound =
    ∥∥₁_elim (sound.between s l) ⊥_prop (λ p. past g.links g.first s p.0 p.2 (passes_by g.links (length g.links) g.steps g.first s sound.within sound.begins e p.0 p.2))

dead_end : (g : Graph) (s : ℕ) → s < g.steps → reach g.links g.steps (length g.links) s g.last ≡ false → Sound g → ⊥
dead_end g s l e sound =
    ∥∥₁_elim (sound.between s l) ⊥_prop (λ p. past g.links s g.last p.1 p.3 (passes_by g.links (length g.links) g.steps s g.last sound.within l e p.1 p.3))

pub soundness_refuses : SoundnessRefuses
unfolding reach reached rounds sweep relax
soundness_refuses = (
  λ s. s.none_in 1 (lit< tt) refl,
  λ s. s.none_out 2 (lit< tt) refl,
  unreached (of_one 3 ((0, 1) ∷ (2, 1) ∷ (1, 3) ∷ [])).graph 2 (lit< tt) refl,
  dead_end (of_one 3 ((0, 1) ∷ (1, 2) ∷ (1, 3) ∷ [])).graph 2 (lit< tt) refl,
)

computed : (h : ℕ) → allb (interleaved ∷ by_entry ∷ deep ∷ kinds) h ≡ true
unfolding allb sampleb planb classb limitsb soundb listingb is_none properb place_of listedb hold parentb same_parent risesb same logicb branchb opensb closesb takenb ownb onlyb meshb fitsb kindb kind_at leadsb thirdb canonicalb inb holdsb size shareb reach reached rounds sweep relax each_below is_some has_slip clashb blocksb rightb answeredb
computed h = refl

further : AllStand (interleaved ∷ by_entry ∷ deep ∷ kinds)
further = all_by (interleaved ∷ by_entry ∷ deep ∷ kinds) computed

pub classes_interleave : ClassesInterleave
classes_interleave = further.0

pub further_stand : FurtherStand
further_stand = (further.1.0, further.1.1.0, further.1.1.1)
