use Rattle.std.proofs.Common.{◌≡◌, ℕ, length, replicate, None, Option, ap, ◌∙◌, arith, rules}
use Rattle.search.specs.Numbered.{nones}
use Rattle.search.proofs.Numbers.{all_new, all_none, nones_replicate}
use Rattle.search.proofs.trees.Tree.new.Goals as goal

pub invariant_of-result : goal.invariant_of-result
invariant_of-result c =
    let v = c.in_ok-vec.field-0 in
    let e : v.items ≡ replicate {A = Option ℕ} c.args.steps None = c.in_ok-vec.ensures.items_if_clones_equal (λ y e. search rules) in
    let z = ap nones e ∙ nones_replicate c.args.steps in
    let l = c.in_ok-vec.ensures.len in
    let y = ap length c.new.ensures.items in
    let a = all_new _ _ c.new.ensures.items (all_none _ c.args.steps e) in
    record { few = omega (arith, v.ok.0); filled = omega (arith, v.ok.0); inside = a.inside; back = a.back; known = a.known; forth = a.forth; above = a.above }
