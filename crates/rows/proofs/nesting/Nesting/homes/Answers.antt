use Rattle.std.proofs.Common.{◌<◌, length, vec_items, rules}
use Rattle.std.proofs.lemmas.Iterator.{YieldsList-from_slice}
use Rattle.std.proofs.lemmas.Iterator.Adapters.{serves_from_places}
use Rattle.theory.proofs.Elements.{each_read}
use Rattle.rows.proofs.nesting.Nesting.homes.Goals as goal

pub collect-requires-clause-can : goal.collect-requires-clause-can
collect-requires-clause-can c =
    let s = c.args.self.now in
    let n = length (vec_items s.fragments) in (
      tt,
      serves_from_places (YieldsList-from_slice (vec_items s.homes) cc) (λ x q r. search rules)
          (λ x k lt e. let below : x.now < n = each_read (λ j. j < n) 0 (vec_items s.homes) k x.now s.homed lt e in search rules),
    )
