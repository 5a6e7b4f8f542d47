use Rattle.std.proofs.Common.{◌≡◌, ℕ, ◌+◌, map, length, get_or, sum_by, sym, ap, subst, arith}
use Rattle.std.proofs.lemmas.List.{length-map, nil_from_length}
use Rattle.lists.proofs.Many.{popped-none, popped-some}
use Rattle.model.specs.Meaning.{pair_of, ends_from, head_of}
use Rattle.search.proofs.Rowing.{ends_at, ends_in}
use Rattle.search.proofs.Ordering.{Grows, grows, inv_start, inv_done, front_in, turn_next, link_in, turn_take}
use Rattle.search.proofs.digraphs.Digraph.order_from.Goals as goal

pub turn-init : goal.turn-init
turn-init c =
    let g = c.args.self.now in
    inv_start (map pair_of g.links.now) g.steps c.args.start _ _ _ _ c.requires g.below c.new-order.ensures.items c.in_ok-reach.ensures.0 c.in_ok-reach.ensures.1
    (rw length-map c.in_ok-left.ensures)

pub pop_at-requires : goal.pop_at-requires
pop_at-requires c =
    omega (arith, c.turn.invariant.wide, front_in _ _ _ _ _ _ _ _ c.in-Some.ensures.item.3.0 c.in-Some.ensures.lookup c.turn.invariant)

pub turn-preserved-in_default-pop_at : goal.turn-preserved-in_default-pop_at
turn-preserved-in_default-pop_at c =
    let none = c.in_default-pop_at.ensures.top in
    rw (c.pop_front.ensures.rest, c.in_default-pop_at.ensures.lists, popped-none c.turn.left c.in-Some.field-0.now.0 none)
    (turn_next _ _ _ _ _ _ _ _ c.in-Some.ensures.item.3.0 c.in-Some.ensures.lookup c.turn.invariant none)

pub bounds-self-link : goal.bounds-self-link
bounds-self-link c =
    omega (arith, length-map c.args.self.now.links.now pair_of, (link_in _ _ _ _ _ _ _ _ c.in-Some.ensures.item.3.0 c.in-Some.ensures.lookup c.turn.invariant c.in-Some-pop_at.link c.in-Some-pop_at.ensures.top).0)

pub add-requires : goal.add-requires
add-requires c =
    let g = c.args.self.now in
    let l = link_in _ _ _ _ _ _ _ _ c.in-Some.ensures.item.3.0 c.in-Some.ensures.lookup c.turn.invariant c.in-Some-pop_at.link c.in-Some-pop_at.ensures.top in
    omega (arith, c.turn.reach.reached.ok.0, c.turn.invariant.long, (ends_in g.links.now g.steps g.below c.in-Some-pop_at.link.0 (omega (arith, l.0, length-map g.links.now pair_of))).1)

-- the head of the link is reached
grown : (c : goal.In_ok-add) → Grows c.turn.reach.reached.items c.turn.reach.queue.items c.add.new.self.reached.items c.add.new.self.queue.items (head_of (map pair_of c.args.self.now.links.now) c.in-Some-pop_at.link.0)
grown c =
    let g = c.args.self.now in
    let l = c.in-Some-pop_at.link.0 in
    let k = link_in _ _ _ _ _ _ _ _ c.in-Some.ensures.item.3.0 c.in-Some.ensures.lookup c.turn.invariant c.in-Some-pop_at.link c.in-Some-pop_at.ensures.top in
    subst (λ (h : ℕ). Grows c.turn.reach.reached.items c.turn.reach.queue.items c.add.new.self.reached.items c.add.new.self.queue.items h) (sym (ap (λ (p : ℕ × ℕ). p.1) (ends_at g.links.now l)))
    (grows _ _ _ _ (get_or g.links.now l (ends_from (0, 0))).head (omega (arith, c.turn.invariant.long, (ends_in g.links.now g.steps g.below l (omega (arith, k.0, length-map g.links.now pair_of))).1)) c.in_ok-add.ensures)

pub turn-smaller : goal.turn-smaller
turn-smaller c =
    let lt = front_in _ _ _ _ _ _ _ _ c.in-Some.ensures.item.3.0 c.in-Some.ensures.lookup c.turn.invariant in
    let less : sum_by length c.pop_at.new.self + 1 ≡ sum_by length c.turn.left =
    rw c.in-Some-pop_at.ensures.lists (popped-some c.turn.left c.in-Some.field-0.now.0 c.in-Some-pop_at.link (omega (arith, c.turn.invariant.wide)) c.in-Some-pop_at.ensures.top) in
    omega (arith, (grown c).by_one)

pub turn-preserved : goal.turn-preserved
turn-preserved c =
    rw (c.in_ok-push.ensures.items, c.in-Some-pop_at.ensures.lists)
    (turn_take _ _ _ _ _ _ _ _ c.in-Some.ensures.item.3.0 c.in-Some.ensures.lookup c.turn.invariant c.in-Some-pop_at.link c.in-Some-pop_at.ensures.top _ _ (grown c))

pub returns : goal.returns
returns c =
    inv_done _ _ _ _ _ c.turn.reach.queue.items _ (nil_from_length _ (omega (arith, c.in_default.ensures.item.3))) c.turn.invariant
