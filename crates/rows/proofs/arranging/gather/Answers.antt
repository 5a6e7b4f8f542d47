use Rattle.std.proofs.Common.{◌≡◌, ◌<◌, ℕ, List, length, set, sym, ap, ◌∙◌, subst, arith, length-set}
use Rattle.std.specs.List.{All}
use Rattle.std.proofs.lemmas.List.{get_or-set_same, set-set}
use Rattle.lists.specs.Rows.{rest}
use Rattle.lists.specs.Many.{row}
use Rattle.lists.proofs.Many.{top_some, all_rest}
use Rattle.rows.specs.Orders.{After, gathered}
use Rattle.rows.proofs.Gathers.{length-joined}
use Rattle.rows.proofs.arranging.gather.Goals as goal

pub loop-child-preserved : goal.loop-child-preserved
loop-child-preserved c =
    let k = c.args.k in
    let n = length c.args.below.now in
    let first = c.args.children.now in
    let known = c.loop-child.invariant in
    let old = c.loop-child.children in
    let below = c.loop-child.below in
    let lt : k < length old = omega (arith, ap length known.same, length-set first k (row old k), c.requires.within, c.requires.same) in
    let popped = c.in-Some.ensures.lists in
    let left : row c.pop_at.new.self k ≡ rest (row old k) = ap (λ (t : List (List ℕ)). row t k) popped ∙ get_or-set_same old k (rest (row old k)) _ lt in
    record {
      long = ap length c.join_at.ensures ∙ length-joined below k c.in-Some.child ∙ known.long;
      same = popped ∙ ap (λ (t : List (List ℕ)). set t k (rest (row old k))) known.same ∙ set-set first k (row old k) (rest (row old k)) ∙ ap (set first k) (sym left);
      after = subst (All (After n k)) (sym left) (all_rest (After n k) (row old k) known.after);
      left = ap (λ (cs : List ℕ). gathered c.join_at.new.self k cs) left ∙ ap (λ t. gathered t k (rest (row old k))) c.join_at.ensures ∙ ap (gathered below k) (sym (top_some c.in-Some.child (row old k) c.in-Some.ensures.top)) ∙ known.left;
    }
