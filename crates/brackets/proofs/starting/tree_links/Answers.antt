use Rattle.std.proofs.Common.{◌≡◌, ℕ, ◌+◌, ◌<◌, true, List, length, get_or, drop, vec_items, ap, ◌∙◌, arith, rules, length-drop, length-set}
use Rattle.std.proofs.lemmas.Grind.{get_or_after_one}
use Rattle.std.proofs.lemmas.List.{length_push}
use Rattle.std.proofs.lemmas.Iterator.{YieldsList-from_slice}
use Rattle.std.proofs.lemmas.Iterator.Adapters.{YieldsList-from_skip}
use Rattle.std.proofs.lemmas.Iterator.Consumers.{YieldsList-turn, YieldsList-end}
use Rattle.naming.specs.DepthFirst.{of_tree}
use Rattle.search.specs.Spans.{link_of}
use Rattle.search.specs.declared.trees.Visit.{Visit}
use Rattle.brackets.proofs.Marks.{link_read, unmarked, marked_more, all_marked}
use Rattle.brackets.proofs.starting.tree_links.Goals as goal

-- the visit that comes after m others
next : (vs : List Visit) (m : ℕ) (x : Visit) → (m < length (drop 1 vs)) × (x ≡ get_or (drop 1 vs) m x) → (m + 1 < length vs) × (x.link.0 ≡ link_of vs (m + 1))
next vs m x t =
    let lt : m + 1 < length vs = omega (arith, length-drop 1 vs, t.0) in
    (lt, link_read vs (m + 1) x lt (t.1 ∙ get_or_after_one vs m x ∙ ap (λ (i : ℕ). get_or vs i x) (let e : 1 + m ≡ m + 1 = omega arith in e)))

pub loop-visit-init : goal.loop-visit-init
loop-visit-init c =
    let e = c.in_ok-in_tree.ensures.items_if_clones_equal (λ y e. search rules) in (
      omega (arith, c.in_ok-in_tree.ensures.len, c.in_ok-in_tree.in_tree.ok.0),
      unmarked (link_of c.args.visits.now) c.args.links (vec_items c.in_ok-in_tree.in_tree) e,
    )

pub loop-visit-preserved : goal.loop-visit-preserved
loop-visit-preserved c =
    let vs = c.args.visits.now in
    let i = c.loop-visit.invariant in
    let k = length c.loop-visit.yielded + 1 in
    let t = next vs _ c.in-Some.visit.now (YieldsList-turn (YieldsList-from_skip 1 (YieldsList-from_slice vs cc) cc) c.loop-visit.yielded _ c.loop-visit.yielded_by _ _ c.in-Some.visit c.in-Some.is c.next.ensures.steps) in (
      length-set (vec_items c.loop-visit.in_tree) c.in-Some.visit.now.link.0 true ∙ i.0,
      λ e. marked_more (link_of vs) k c.in-Some.visit.now.link.0 (vec_items c.loop-visit.in_tree) (omega arith) t.1 (omega (arith, t, c.requires k (omega arith) t.0, i.0)) i.1 e ∙
          ap (λ (n : ℕ). of_tree (link_of vs) (n + 1) e) (let n = length_push c.loop-visit.yielded c.in-Some.visit in omega arith),
    )

pub returns : goal.returns
returns c =
    let vs = c.args.visits.now in
    let i = c.loop-visit.invariant in
    let t = YieldsList-end (YieldsList-from_skip 1 (YieldsList-from_slice vs cc) cc) c.loop-visit.yielded _ c.loop-visit.yielded_by _ _ c.in-None.is c.next.ensures.steps in
    (i.0, λ e. i.1 e ∙ all_marked (link_of vs) (length c.loop-visit.yielded) (length vs) e (omega (arith, t.1, length-drop 1 vs)))
