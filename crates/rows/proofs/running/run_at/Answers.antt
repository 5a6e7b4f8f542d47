use Rattle.std.proofs.Common.{ℕ, ◌+◌, ◌-◌, ◌<◌, ◌≤◌, ◌≡◌, map, length, sym, subst, arith}
use Rattle.std.proofs.lemmas.List.{length-map}
use Rattle.rows.specs.Orders.{depth_of}
use Rattle.rows.specs.Runs.{depth_at}
use Rattle.rows.proofs.Depths.{depth_at-map}
use Rattle.rows.proofs.running.run_at.Goals as goal
use Rattle.rows.proofs.running.run_at.Goals.{then-loop-end-test+else-records-end, else-loop-end-test}

pub returns : goal.returns
returns c =
    let rs = c.args.records.now in
    let i = c.args.i in
    let end = c.loop-end.end in
    let known = c.loop-end.invariant in
    let long = length-map rs depth_of in
    let whole : i + (end - i) ≡ end = omega (arith, known.after) in
    record {
      some = omega (arith, known.after);
      room = omega (arith, known.within, known.after);
      deeper = λ k ik ke. known.deeper k ik (omega (arith, known.after));
      ends = subst (λ (j : ℕ). j < length (map depth_of rs) → depth_at (map depth_of rs) j ≤ depth_at (map depth_of rs) i) (sym whole)
          (λ lt. elim c.loop-end-test.branch [
            | then-loop-end-test+else-records-end w ↦ omega (arith, w.if-records-end.false, depth_at-map rs end, depth_at-map rs i)
            | else-loop-end-test w ↦ absurd (omega (arith, w.loop-end-test.false))
          ]);
    }
