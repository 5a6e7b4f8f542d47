use Rattle.std.proofs.Common.{◌≡◌, ◌<◌, [], length, set, sym, ap, ◌∙◌, arith, length-set}
use Rattle.std.proofs.lemmas.List.{get_or-set_same, set-set}
use Rattle.lists.specs.Many.{row}
use Rattle.lists.specs.Rows.{rest}
use Rattle.brackets.specs.Live.{live}
use Rattle.brackets.proofs.Live.{ended}
use Rattle.brackets.proofs.sweeping.live_top.Goals as goal

pub loop-top-preserved : goal.loop-top-preserved
loop-top-preserved c =
    let t = c.loop-top.brackets in
    let v = c.args.v in
    let i = c.loop-top.invariant in
    let p = c.pop_at.ensures.lists in
    let left = rest (row t v) in
    let lt : v < length t = omega (arith, ap length i.0, length-set c.args.brackets.now v (row t v), c.requires) in
    let same : row c.pop_at.new.self v ≡ left = ap (λ s. row s v) p ∙ get_or-set_same t v left [] lt in (
      p ∙ ap (λ s. set s v left) i.0 ∙ set-set c.args.brackets.now v (row t v) left ∙ ap (set c.args.brackets.now v) (sym same),
      i.1 ∙ ended v c.in-Some.top (row t v) c.in-Some.ensures c.if-top-v.false ∙ ap (live v) (sym same),
    )
