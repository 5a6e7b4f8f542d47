use Rattle.std.proofs.Common.{◌≡◌, ◌+◌, ◌<◌, length, None, Option, vec_items, ap, ◌∙◌, arith}
use Rattle.std.proofs.lemmas.List.{length-map, length-replicate}
use Rattle.std.proofs.ByRecursion.{All-weaker}
use Rattle.lists.specs.Many.{row}
use Rattle.model.specs.Meaning.{pair_of}
use Rattle.classes.specs.declared.names.Latest.{Latest}
use Rattle.classes.proofs.sweeping.Naming.new.Goals as goal

pub invariant_of-result : goal.invariant_of-result
invariant_of-result c =
    let s = c.args.search.now in
    let begun = c.in_ok-sweep.ensures.begun in
    let none : Option Latest = None in
    let made = c.in_ok-names.ensures in
    let long : length (vec_items c.in_ok-names.names.latest) ≡ c.len-links.result + c.len.result = ap length made.1 ∙ length-replicate (c.len-links.result + c.len.result) none in
    let many : length (vec_items s.links) ≡ c.len-links.result = omega (arith, c.len-links.ensures, s.links.ok.0) in
    let size : length (vec_items s.tree.visits) ≡ c.len.result = omega (arith, c.len.ensures, s.tree.visits.ok.0) in
    let pairs = length-map (vec_items s.links) pair_of in
    record {
      held = λ j. All-weaker _ (λ b. b.item < length (vec_items c.in_ok-names.names.latest)) (λ b h. omega (arith, h.0, long, many, pairs)) (row c.in_ok-sweep.sweep.brackets j) (begun.right j);
      caps = omega (arith, made.0, begun.long, c.in_ok-sweep.sweep.levels.ok.0, long, size);
      few = omega (arith, made.0, begun.long, c.in_ok-sweep.sweep.levels.ok.0, c.requires.few, many, pairs);
    }
