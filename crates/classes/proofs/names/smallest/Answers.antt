use Rattle.std.proofs.Common.{ℕ, ◌<◌, ◌≤◌, List, length, get_or, take, vec_items, arith, length-take}
use Rattle.std.proofs.lemmas.List.{get_or-take}
use Rattle.model.specs.declared.numbers.LinkNo.{LinkNo}
use Rattle.theory.specs.Each.{Each}
use Rattle.theory.proofs.Elements.{each_pushed, each_some_or, each_some_set}
use Rattle.classes.specs.Bounds.{Below}
use Rattle.classes.proofs.names.smallest.Goals as goal

-- one of the first n links
named : (m n l : ℕ) (xs : List LinkNo) → n ≤ length xs → Each (Below m) (record { 0 = 0 }) xs → l < length (take n xs) → (l < n) × ((get_or (take n xs) l (record { 0 = 0 })).0 < m)
named m n l xs enough below h =
    let lt : l < n = omega (arith, length-take n xs) in
    (lt, rw get_or-take (below l (omega arith)))

pub loop-l-preserved : goal.loop-l-preserved
loop-l-preserved c =
    let m = c.args.links in
    let i = c.loop-l.invariant in
    let n = named _ m c.loop-l.l c.args.firsts.now c.requires.enough c.requires.below c.loop-l-test.true in
    let p = each_some_or (Below m) (vec_items c.loop-l.names) _ _ _ _ i.1 (omega (arith, i.0, n, c.loop-l.names.ok.0)) c.index_mut.ensures.value n.0 c.get_or_insert-class.ensures.value in (
      i.0,
      each_some_set (Below m) _ _ _ i.1 p,
      omega (arith, i.2, c.in_ok-push.ensures.len),
      each_pushed (Below m) (record { 0 = 0 }) _ _ _ _ c.push.ensures.items i.3 p,
    )
