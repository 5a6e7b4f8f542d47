use Rattle.std.proofs.Common.{◌<◌, length, Some, ◌∙◌, arith, length-set}
use Rattle.std.proofs.lemmas.List.{length_push}
use Rattle.search.specs.declared.trees.Visit.{Visit}
use Rattle.search.proofs.Numbers.{all_visit, nones_set}
use Rattle.search.proofs.trees.Tree.visit.Goals as goal

pub overflow_cast-k : goal.overflow_cast-k
overflow_cast-k c =
    let s = c.args.self.now in
    omega (arith, nones_set s.number.items c.args.step.0 0 (omega (arith, s.number.ok.0)) c.requires.fresh, s.filled, s.few, s.visits.ok.0)

pub invariant_of-self-2 : goal.invariant_of-self-2
invariant_of-self-2 c =
    let s = c.args.self.now in
    let k = c.len-k.result in
    let V : Visit = record { step = c.args.step; parent = c.args.parent; link = c.args.link } in
    let ln : V.step.0 < length s.number.items = omega (arith, s.number.ok.0) in
    let a = all_visit s.number.items s.visits.items V k (c.len-k.ensures ∙ s.visits.ok.0) ln c.requires.fresh (λ z. omega (arith, s.visits.ok.0, c.requires.up (omega (arith, s.visits.ok.0))))
    (record { inside = s.inside; back = s.back; known = s.known; forth = s.forth; above = s.above }) in
    rw c.in_ok-push.ensures.items
    (record {
      few = omega (arith, s.few, length-set s.number.items V.step.0 (Some k));
      filled = omega (arith, s.filled, nones_set s.number.items V.step.0 k ln c.requires.fresh, length-set s.number.items V.step.0 (Some k), length_push s.visits.items V);
      inside = a.inside;
      back = a.back;
      known = a.known;
      forth = a.forth;
      above = a.above;
    })
