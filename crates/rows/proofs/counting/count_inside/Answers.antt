use Rattle.std.proofs.Common.{arith, refl, ◌∙◌}
use Rattle.std.proofs.Math.Seq.{map-set_same}
use Rattle.rows.specs.Nests.{no_fragment, site_of}
use Rattle.rows.proofs.Sited.{sites-same}
use Rattle.rows.proofs.counting.count_inside.Goals as goal

pub bounds-fragments-site : goal.bounds-fragments-site
bounds-fragments-site c =
    let below = sites-same c.args.fragments.now c.loop-k.fragments c.loop-k.invariant c.requires _ (omega arith) c.in-Some.site c.in-Some.is in
    omega arith

pub loop-k-preserved-in-Some : goal.loop-k-preserved-in-Some
loop-k-preserved-in-Some c = map-set_same site_of c.loop-k.fragments c.in-Some.site.parent _ no_fragment refl ∙ c.loop-k.invariant
