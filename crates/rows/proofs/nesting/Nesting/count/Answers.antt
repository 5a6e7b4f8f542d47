use Rattle.std.proofs.Common.{map, vec_items, ap, ◌∙◌, arith}
use Rattle.std.specs.Vec.{with_items}
use Rattle.rows.specs.Nests.{site_of}
use Rattle.rows.proofs.Counts.{sites-own, sites-kept}
use Rattle.rows.proofs.Sited.{length-same, sites-same, placed-same}
use Rattle.rows.proofs.nesting.Nesting.count.Goals as goal

pub count_inside-requires : goal.count_inside-requires
count_inside-requires c =
    let s = c.args.self.now in
    let own = sites-own s.fragments _ _ c.as_slice.result.now c.args.logics.now c.args.degrees.now c.as_mut_slice.ensures.value c.count_own.ensures in
    sites-same (vec_items s.fragments) c.as_mut_slice-2.result.now (ap (map site_of) c.as_mut_slice-2.ensures.value ∙ own) s.sites

pub invariant_of-self : goal.invariant_of-self
invariant_of-self c =
    let s = c.args.self.now in
    let new = with_items (with_items s.fragments c.count_own.new.fragments) c.count_inside.new.fragments in
    let kept = sites-kept s.fragments _ _ _ _ c.as_slice.result.now c.args.logics.now c.args.degrees.now c.as_mut_slice.ensures.value c.count_own.ensures c.as_mut_slice-2.ensures.value c.count_inside.ensures in
    let long = length-same (vec_items s.fragments) (vec_items new) kept in
    record {
      some = omega (arith, long, s.some);
      sites = sites-same (vec_items s.fragments) (vec_items new) kept s.sites;
      placed = placed-same (vec_items s.fragments) (vec_items new) kept s.placed;
      homed = λ k lt. omega (arith, long, s.homed k lt);
      known = λ k x is. let i = s.known k x is in (i.0, omega (arith, long, i.1));
    }

pub returns-clause-sites : goal.returns-clause-sites
returns-clause-sites c =
    sites-kept c.args.self.now.fragments _ _ _ _ c.as_slice.result.now c.args.logics.now c.args.degrees.now c.as_mut_slice.ensures.value c.count_own.ensures c.as_mut_slice-2.ensures.value c.count_inside.ensures
