use Rattle.std.proofs.Common.{◌≡◌, Ok, Err, length, vec_items, ◌∙◌, arith, rules}
use Rattle.std.proofs.lemmas.List.{nil_from_length}
use Rattle.std.proofs.lemmas.List.Sorted.{answers_always}
use Rattle.text.proofs.Going.{at_start, one_more, stopped, at_fault, cut_line}
use Rattle.text.proofs.decoding.decode.Goals as goal

pub loop-k-init : goal.loop-k-init
loop-k-init c =
    let ok = c.in_ok-check_whole.ensures in
    record {
      going = at_start c.args.text.now ok.0 ok.1 (vec_items c.new-frames.result) c.new-frames.ensures.items _ (search rules);
      counted = search rules;
    }

pub returns-in-Err : goal.returns-in-Err
returns-in-Err c =
    let going = c.loop-k.invariant.going in
    let step = c.in-Some.ensures.steps in
    let cut = cut_line _ _ _ going _ _ step.0 (answers_always _ _ _ (λ f a r f' called. search rules)) in
    let n : c.in-Some.k ≡ length (vec_items c.loop-k.frames) = step.1 ∙ c.loop-k.invariant.counted in
    stopped c.args.text.now c.loop-k.frames _ (Err c.in-Err.fault) going (at_fault _ _ _ _ c.in-Err.fault cut (rw (← n) c.in-Err.ensures))

pub loop-k-preserved : goal.loop-k-preserved
loop-k-preserved c =
    let going = c.loop-k.invariant.going in
    let step = c.in-Some.ensures.steps in
    let cut = cut_line _ _ _ going _ _ step.0 (answers_always _ _ _ (λ f a r f' called. search rules)) in
    let n : c.in-Some.k ≡ length (vec_items c.loop-k.frames) = step.1 ∙ c.loop-k.invariant.counted in
    record {
      going = one_more _ _ _ going _ _ cut c.in_default.ensures.some c.in_ok-frame_of.field-0 (rw (← n) c.in_ok-frame_of.ensures) (vec_items c.push.new.self) c.in_ok-push.ensures.items;
      counted = omega (arith, step.2, c.in_ok-push.ensures.len);
    }

pub returns : goal.returns
returns c = stopped c.args.text.now c.loop-k.frames _ (Ok tt) c.loop-k.invariant.going (nil_from_length _ c.in-None.ensures.steps.0.0)
