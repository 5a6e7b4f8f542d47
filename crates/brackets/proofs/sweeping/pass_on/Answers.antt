use Rattle.std.proofs.Common.{◌≡◌, length, refl, ap, ◌∙◌, arith, length-set}
use Rattle.lists.specs.Many.{row}
use Rattle.lists.specs.Rows.{put}
use Rattle.brackets.specs.Live.{moved, left}
use Rattle.brackets.proofs.Live.{joined, made_live}
use Rattle.brackets.proofs.sweeping.pass_on.Goals as goal

pub returns-clause-rows : goal.returns-clause-rows
returns-clause-rows c =
    let t = c.args.brackets.now in
    let v = c.args.v in
    let own = c.args.own in
    let r = c.requires in
    let a = c.join_at.ensures in
    let b = c.live_top-top.ensures.lists in
    let one : length c.join_at.new.self ≡ length t = ap length a ∙ length-set _ _ _ ∙ length-set _ _ _ in
    let two : length c.live_top-top.new.brackets ≡ length t = ap length b ∙ length-set _ _ _ ∙ one in
    joined _ _ (put (moved (row t) v own) v (left (row t) v own)) c.args.parent v (omega (arith, r.parent, r.v)) (omega (arith, r.v))
    (made_live _ _ (moved (row t) v own) v (omega (arith, r.v)) (joined t _ (row t) v own r.v r.own (λ j lt. refl) a) b) c.join_at-2.ensures
