use Rattle.std.proofs.Common.{◌≡◌, ℕ, ◌+◌, ◌<◌, ◌↔◌, [], length, get_or, replicate, None, vec_items, vec_len, sym, ap, ◌∙◌, subst, ap₂, min, max, false, List, arith}
use Rattle.std.proofs.lemmas.List.{length-map, length-replicate, get_or_read}
use Rattle.lists.specs.Many.{row, Reads}
use Rattle.lists.proofs.Many.{reads-replicate}
use Rattle.brackets.specs.Handled.{Begins}
use Rattle.model.specs.Meaning.{ends_from, pair_of, tail_of, head_of}
use Rattle.naming.specs.DepthFirst.{of_tree}
use Rattle.search.specs.Spans.{link_of, step_of, par_of}
use Rattle.search.specs.declared.trees.Visit.{Visit}
use Rattle.brackets.specs.declared.holding.Bracket.{Bracket}
use Rattle.brackets.specs.Levels.{bare}
use Rattle.brackets.specs.Live.{with_start}
use Rattle.brackets.specs.Method.{links_of, visits_of, numbers_of, size_of, number_of}
use Rattle.brackets.specs.Swept.{Begun}
use Rattle.brackets.proofs.Begun.{begun_none, begun_read, begun_swept}
use Rattle.brackets.proofs.Looked.{tree_link_skipped, loop_skipped, back_link_put, few_ends}
use Rattle.brackets.proofs.Seen.{ends_at}
use Rattle.brackets.proofs.holding.Sweep.new.Goals as goal
use Rattle.brackets.proofs.holding.Sweep.new.Goals.{After-index, After-loop-l}

pub loop-l-init : goal.loop-l-init
loop-l-init c =
    let s = c.args.search.now in
    let w = c.in_ok-sweep.sweep in
    let made = c.in_ok-sweep.ensures in
    let e : c.len-2.result ≡ size_of s = omega (arith, s.tree.visits.ok.0, c.len-2.ensures) in
    begun_read (links_of s) (size_of s) (number_of s) (link_of (visits_of s)) 0 w.brackets (λ _. []) (vec_items w.levels)
    (subst (λ (t : List (List Bracket)). Reads t (λ _. [])) (sym made.1) (reads-replicate (c.len-2.result + c.len-2.result)))
    (let none : List Bracket = [] in omega (arith, ap length made.1, length-replicate (c.len-2.result + c.len-2.result) none, e))
    (begun_none (links_of s) (size_of s) (number_of s) (link_of (visits_of s)) (vec_items w.levels) (made.0 ∙ ap (λ (i : ℕ). replicate i (bare i)) e))

-- the link that is looked at, and whether the tree has it
at : (c : After-index) → (c.loop-l.l < length (links_of c.args.search.now))
    × ((get_or c.deref-ends-items.result.now c.loop-l.l (ends_from (0, 0))).tail.0 ≡ tail_of (links_of c.args.search.now) c.loop-l.l)
    × ((get_or c.deref-ends-items.result.now c.loop-l.l (ends_from (0, 0))).head.0 ≡ head_of (links_of c.args.search.now) c.loop-l.l)
at c = ends_at c.deref-ends-items.result.now (vec_items c.args.search.now.links) c.loop-l.l c.deref-ends-items.ensures.value c.loop-l-test.true

marked : (c : After-index) → c.index.result.now ≡ of_tree (link_of (visits_of c.args.search.now)) (size_of c.args.search.now) c.loop-l.l
marked c =
    let l = c.loop-l.l in
    get_or_read (vec_items c.in_ok-in_tree.in_tree) l c.index.result.now (omega (arith, c.loop-l-test.true, c.deref-ends-items.ensures.len, c.in_ok-in_tree.ensures.0, c.len.ensures)) c.index.ensures false ∙
    c.in_ok-in_tree.ensures.1 l ∙ ap (λ (vs : List Visit). of_tree (link_of vs) (length vs) l) c.deref.ensures.value

pub loop-l-preserved-then-index : goal.loop-l-preserved-then-index
loop-l-preserved-then-index c =
    tree_link_skipped c.args.search.now c.loop-l.l (row c.loop-l.sweep.brackets) (vec_items c.loop-l.sweep.levels) c.loop-l.invariant
    (sym (marked (goal.at.loop-l-preserved-then-index c).After-index) ∙ c.if-index.true)

pub numbers-requires-clause-tail : goal.numbers-requires-clause-tail
numbers-requires-clause-tail c =
    let e = at (goal.at.numbers-requires-clause-tail c).After-index in omega (arith, e.1, (c.requires.ends c.loop-l.l e.0).0)

pub numbers-requires-clause-head : goal.numbers-requires-clause-head
numbers-requires-clause-head c =
    let e = at (goal.at.numbers-requires-clause-head c).After-index in omega (arith, e.2, (c.requires.ends c.loop-l.l e.0).1)

pub numbers-requires-clause-both : goal.numbers-requires-clause-both
numbers-requires-clause-both c =
    let s = c.args.search.now in
    let e = at (goal.at.numbers-requires-clause-both c).After-index in
    subst (λ (i : ℕ). (get_or (numbers_of s) i None ≡ None) ↔ (get_or (numbers_of s) (get_or c.deref-ends-items.result.now c.loop-l.l (ends_from (0, 0))).head.0 None ≡ None)) (sym e.1)
    (subst (λ (i : ℕ). (get_or (numbers_of s) (tail_of (links_of s) c.loop-l.l) None ≡ None) ↔ (get_or (numbers_of s) i None ≡ None)) (sym e.2) (c.requires.both c.loop-l.l e.0))

pub loop-l-preserved-in_default : goal.loop-l-preserved-in_default
loop-l-preserved-in_default c =
    let s = c.args.search.now in
    let e = at (goal.at.loop-l-preserved-in_default c).After-index in
    loop_skipped s c.loop-l.l (row c.loop-l.sweep.brackets) (vec_items c.loop-l.sweep.levels) c.loop-l.invariant (sym (ap (number_of s) e.1) ∙ c.in_default.ensures.same ∙ ap (number_of s) e.2)

pub start-requires-clause-room : goal.start-requires-clause-room
start-requires-clause-room c =
    few_ends c.args.search.now c.loop-l.l (row c.loop-l.sweep.brackets) (vec_items c.loop-l.sweep.levels) c.loop-l.invariant
    (omega (arith, c.requires.few, (at (goal.at.start-requires-clause-room c).After-index).0)) c.in-Some.to (omega (arith, c.in-Some.ensures.from, c.in-Some.ensures.to))

pub loop-l-preserved : goal.loop-l-preserved
loop-l-preserved c =
    let s = c.args.search.now in
    let l = c.loop-l.l in
    let i = c.loop-l.invariant in
    let e = at (goal.at.loop-l-preserved c).After-index in
    let many : vec_len c.loop-l.sweep.levels ≡ size_of s = omega (arith, i.long, c.loop-l.sweep.levels.ok.0) in
    let up = c.in-Some.ensures in
    let put = back_link_put s l (row c.loop-l.sweep.brackets) (vec_items c.loop-l.sweep.levels) i c.in-Some.from c.in-Some.to
    (up.from.0 ∙ ap₂ max (ap (number_of s) e.1) (ap (number_of s) e.2)) (up.to ∙ ap₂ min (ap (number_of s) e.1) (ap (number_of s) e.2)) up.from.1
    (sym (marked (goal.at.loop-l-preserved c).After-index) ∙ c.if-index.false) (λ q. up.same (ap (number_of s) e.1 ∙ q ∙ sym (ap (number_of s) e.2))) in
    begun_read (links_of s) (size_of s) (number_of s) (link_of (visits_of s)) (l + 1) c.start.new.self.brackets (with_start (size_of s) (row c.loop-l.sweep.brackets) l c.in-Some.from c.in-Some.to) (vec_items c.start.new.self.levels)
    (subst (λ (n : ℕ). Reads c.start.new.self.brackets (with_start n (row c.loop-l.sweep.brackets) l c.in-Some.from c.in-Some.to)) many c.in_ok-start.ensures.rows)
    (omega (arith, c.start.new.self.lists, c.start.new.self.levels.ok.0, ap length c.in_ok-start.ensures.levels, put.long))
    (subst (Begun (links_of s) (size_of s) (number_of s) (link_of (visits_of s)) (l + 1) (with_start (size_of s) (row c.loop-l.sweep.brackets) l c.in-Some.from c.in-Some.to)) (sym c.in_ok-start.ensures.levels) put)

-- after the loop every link was looked at
begun : (c : After-loop-l) → Begins c.args.search.now c.loop-l.sweep
begun c =
    let s = c.args.search.now in
    subst (λ (m : ℕ). Begun (links_of s) (size_of s) (number_of s) (link_of (visits_of s)) m (row c.loop-l.sweep.brackets) (vec_items c.loop-l.sweep.levels))
    (omega (arith, c.loop-l-test.false, c.loop-l.auto.l-end, c.deref-ends-items.ensures.len, s.links.ok.0, length-map (vec_items s.links) pair_of)) c.loop-l.invariant

pub returns-clause-begun : goal.returns-clause-begun
returns-clause-begun c = begun (goal.at.returns-clause-begun c).After-loop-l

pub returns-clause-handled : goal.returns-clause-handled
returns-clause-handled c = λ whole.
    let s = c.args.search.now in
    begun_swept (links_of s) (size_of s) whole.within (number_of s) (step_of (visits_of s)) (par_of (visits_of s)) (link_of (visits_of s)) whole.tree (row c.loop-l.sweep.brackets) (vec_items c.loop-l.sweep.levels)
    (begun (goal.at.returns-clause-handled c).After-loop-l)
