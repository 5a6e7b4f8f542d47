use Rattle.std.proofs.Common.{◌<◌, length, vec_items, sym, ap, ◌∙◌, subst, arith, length-set}
use Rattle.std.specs.Option.{option_to_list}
use Rattle.std.proofs.lemmas.Iterator.{YieldsList-from_slice}
use Rattle.std.proofs.lemmas.Iterator.Adapters.{YieldsList-from_flatten}
use Rattle.std.proofs.lemmas.Iterator.Consumers.{YieldsList-turn}
use Rattle.std.proofs.lemmas.List.Elements.{All-cons}
use Rattle.lists.specs.Many.{row, EachItem}
use Rattle.lists.proofs.Many.{each-set}
use Rattle.rows.specs.Nests.{Inner}
use Rattle.rows.specs.Orders.{After}
use Rattle.rows.proofs.Sited.{site-read}
use Rattle.rows.proofs.There.{YieldsList-from_option, all_there}
use Rattle.rows.proofs.nesting.Nesting.children.Goals as goal
use Rattle.rows.proofs.nesting.Nesting.children.Goals.{In-Some}

inner : (c : In-Some) → Inner (length (vec_items c.args.self.now.fragments)) c.in-Some.number.now
inner c =
    let s = c.args.self.now in
    let n = length (vec_items s.fragments) in
    let road = YieldsList-from_flatten _ _ (λ y. y.now) option_to_list (λ x j b. YieldsList-from_option x.now b.0 b.1) (YieldsList-from_slice (vec_items s.entered) cc) (cc) (cc) (cc) in
    let t = YieldsList-turn road c.loop-number.yielded c.loop-number.number-iterator c.loop-number.yielded_by c.next.result c.next.new.self c.in-Some.number c.in-Some.is c.next.ensures.steps in
    subst (Inner n) (sym t.1) (all_there (Inner n) (vec_items s.entered) s.known (length c.loop-number.yielded) c.in-Some.number.now t.0)

pub index-requires : goal.index-requires
index-requires c = omega (arith, (inner (goal.at.index-requires c).In-Some).1, c.args.self.now.fragments.ok.0)

pub push_at-requires : goal.push_at-requires
push_at-requires c =
    let s = c.args.self.now in
    let k = inner (goal.at.push_at-requires c).In-Some in
    omega (arith, k.1, site-read (vec_items s.fragments) _ _ _ s.sites k.1 c.index.ensures c.in-Some-site.is, c.loop-number.invariant.long)

pub loop-number-preserved-in-Continue-branch-2 : goal.loop-number-preserved-in-Continue-branch-2
loop-number-preserved-in-Continue-branch-2 c =
    let s = c.args.self.now in
    let n = length (vec_items s.fragments) in
    let old = c.loop-number.children in
    let known = c.loop-number.invariant in
    let k = inner (goal.at.loop-number-preserved-in-Continue-branch-2 c).In-Some in
    let p = c.in-Some-site.site.parent in
    let below = site-read (vec_items s.fragments) _ _ _ s.sites k.1 c.index.ensures c.in-Some-site.is in
    let lt : p < length old = omega (arith, k.1, below, known.long) in
    let e = c.in_ok-push_at.ensures in
    record {
      long = ap length e ∙ length-set old p _ ∙ known.long;
      after = subst (EachItem (After n)) (sym e) (each-set (After n) old p _ known.after (All-cons (After n p) c.in-Some.number.now (row old p) (below, k.1) (known.after p lt)));
    }
