use Rattle.std.proofs.Common.{get_or, set, ap, ◌∙◌, sym, inl, inr, length-set}
use Rattle.rows.specs.declared.nesting.Fragment.{Fragment}
use Rattle.rows.specs.Counts.{count_at, counted_by}
use Rattle.rows.specs.Nests.{no_fragment}
use Rattle.rows.proofs.Counts.{counted_by-first, counted_by-none}
use Rattle.rows.proofs.counting.count_own.Goals as goal

pub loop-home-preserved : goal.loop-home-preserved
loop-home-preserved c =
    let a = c.in-Some.ensures.steps in
    let h = c.in-Some.home.now in
    let fs = c.loop-home.fragments in
    let n = c.next.new.self in
    record {
      same = length-set fs h c.count.new.self ∙ c.loop-home.invariant.same;
      left = ap (λ (f : Fragment). counted_by (set fs h f) n.a.a.rest.now n.a.b.rest.now n.b.rest.now) (c.count.ensures ∙ ap (count_at (get_or fs h no_fragment) c.in-Some.logic.now) c.branches.ensures)
          ∙ sym (counted_by-first fs h c.in-Some.logic.now c.in-Some.degree.now _ n.a.a.rest.now _ n.a.b.rest.now _ n.b.rest.now a.0.0 a.0.1 a.1) ∙ c.loop-home.invariant.left;
    }

pub returns : goal.returns
returns c =
    let at = c.loop-home.home-iterator in
    let none = counted_by-none c.loop-home.fragments at.a.a.rest.now at.a.b.rest.now at.b.rest.now in
    let left = c.loop-home.invariant.left in
    elim c.in-None.ensures.steps [
      | inl p ↦
          elim p.1 [
            | inl q ↦ sym (none (inl q.1.0)) ∙ left
            | inr q ↦ sym (none (inr (inl q.1.0))) ∙ left
          ]
      | inr p ↦ sym (none (inr (inr p.1.0))) ∙ left
    ]
