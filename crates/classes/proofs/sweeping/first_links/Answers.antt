use Rattle.std.proofs.Common.{◌≡◌, ℕ, ◌+◌, ◌<◌, List, [], ◌∷◌, ◌++◌, length, get_or, take, vec_items, sym, ap, ◌∙◌, arith}
use Rattle.std.proofs.lemmas.List.{get_or_push, length_push, length-take, take_more}
use Rattle.std.proofs.Math.Seq.{take-append_seam}
use Rattle.std.specs.Iterator.Adapters.{rev_source, skip_source, enumerate_source}
use Rattle.std.specs.Slice.Iter.{iter_rest}
use Rattle.search.specs.Numbered.{none}
use Rattle.search.specs.declared.trees.Visit.{Visit}
use Rattle.theory.proofs.Elements.{each_read_at, each_set}
use Rattle.brackets.specs.Method.{links_of, visits_of}
use Rattle.classes.specs.Bounds.{Below}
use Rattle.classes.proofs.sweeping.first_links.Goals as goal
use Rattle.classes.proofs.sweeping.first_links.Goals.{In-Some}

-- the last of the visits that are left
module _ (vs rest left : List Visit) (v : ℕ) (x : Visit) (e : rest ≡ take (length rest) vs) (f : rest ≡ left ++ x ∷ []) (g : v ≡ length left) where
  within : v < length vs
  within = omega (arith, ap length e, length-take (length rest) vs, ap length f, length_push left x)

  -- the visits before v, with that of v
  seen : rest ≡ take v vs ++ get_or vs v x ∷ []
  seen = let q : length rest ≡ v + 1 = omega (arith, ap length f, length_push left x) in e ∙ ap (λ (n : ℕ). take n vs) q ∙ take_more vs v x within

  many : length (take v vs) ≡ v
  many = let w = within in omega (arith, length-take v vs)

  here : x ≡ get_or vs v x
  here = sym (get_or_push left x x v (sym g)) ∙ ap (λ (ys : List Visit). get_or ys v x) (sym f ∙ seen) ∙ get_or_push (take v vs) (get_or vs v x) x v many

  before : left ≡ take (length left) vs
  before =
      sym (take-append_seam left (x ∷ [])) ∙ ap (take (length left)) (sym f ∙ seen) ∙ ap (λ (n : ℕ). take n (take v vs ++ get_or vs v x ∷ [])) (sym g ∙ sym many) ∙
      take-append_seam (take v vs) (get_or vs v x ∷ []) ∙ ap (λ (n : ℕ). take n vs) g

-- the number and the visit of this turn
turn : (c : In-Some) → (0 < c.in-Some.v) × (c.in-Some.v < length (visits_of c.args.search.now)) × (c.in-Some.visit.now ≡ get_or (visits_of c.args.search.now) c.in-Some.v c.in-Some.visit.now)
turn c =
    let i = c.loop-v.invariant in
    let h = c.in-Some.ensures.steps in
    let f = h.1.1.1.0 in
    let left = iter_rest (enumerate_source (skip_source (rev_source c.next.new.self))) in
    let g : c.in-Some.v ≡ length left = omega (arith, h.1.1.1.1, i.5) in (
      omega (arith, h.1.0, i.4, ap length f, length_push left c.in-Some.visit.now, g),
      within _ _ left c.in-Some.v c.in-Some.visit.now i.6 f g,
      here _ _ left c.in-Some.v c.in-Some.visit.now i.6 f g,
    )

pub turn-requires-clause-parent : goal.turn-requires-clause-parent
turn-requires-clause-parent c =
    let t = turn (goal.at.turn-requires-clause-parent c).In-Some in
    each_read_at (λ (k : ℕ) (v : Visit). 0 < k → v.parent < k) none (visits_of c.args.search.now) _ _ (λ k l z. c.args.search.now.tree.above k z l) t.1 t.2 t.0

linked : (c : In-Some) → c.in-Some.visit.now.link.0 < length (links_of c.args.search.now)
linked c =
    let t = turn c in
    each_read_at (λ (k : ℕ) (v : Visit). 0 < k → v.link.0 < length (links_of c.args.search.now)) none (visits_of c.args.search.now) _ _ (λ k l z. c.requires.linked k z l) t.1 t.2 t.0

pub turn-requires-clause-link : goal.turn-requires-clause-link
turn-requires-clause-link c = omega (arith, linked (goal.at.turn-requires-clause-link c).In-Some, c.loop-v.invariant.2)

pub index_mut-requires : goal.index_mut-requires
index_mut-requires c = omega (arith, linked (goal.at.index_mut-requires c).In-Some, c.loop-v.invariant.0)

pub loop-v-preserved : goal.loop-v-preserved
loop-v-preserved c =
    let i = c.loop-v.invariant in
    let h = c.in-Some.ensures.steps in
    let left = iter_rest (enumerate_source (skip_source (rev_source c.next.new.self))) in (
      i.0,
      each_set (Below (length (links_of c.args.search.now))) (record { 0 = 0 }) (vec_items c.loop-v.firsts) c.in-Some.visit.now.link.0 c.in_ok-firsts-2.field-0 i.1 (omega (arith, c.in_ok-firsts-2.ensures.below, i.2)),
      c.turn.ensures.links ∙ i.2,
      c.turn.ensures.len ∙ i.3,
      h.0 ∙ i.4,
      h.1.1.0 ∙ i.5,
      before _ _ left c.in-Some.v c.in-Some.visit.now i.6 h.1.1.1.0 (omega (arith, h.1.1.1.1, i.5)),
    )
