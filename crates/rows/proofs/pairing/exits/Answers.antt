use Rattle.std.proofs.Common.{◌<◌, length, get_or, set, vec_items, Vec, Option, ◌∙◌, sym, ap, subst, arith, ◌≡◌, ℕ, Some, None, refl}
use Rattle.std.specs.declared.alloc.Global.{Global}
use Rattle.model.specs.declared.numbers.LinkNo.{LinkNo}
use Rattle.theory.proofs.Elements.{each_some_read, each_some_set}
use Rattle.std.proofs.lemmas.List.{get_or_default}
use Rattle.rows.specs.Bounds.{Below, SomeBelow}
use Rattle.rows.specs.Pairs.{class_at, Paired}
use Rattle.rows.proofs.There.{each_some_set_at}
use Rattle.rows.proofs.pairing.exits.Goals as goal
use Rattle.rows.proofs.pairing.exits.Goals.{in-Some, in_default}

pub index_mut-requires-in-Some : goal.index_mut-requires-in-Some
index_mut-requires-in-Some c =
    let classes = c.args.classes.now in
    let m = length classes in
    let known = c.loop-link.invariant in
    let at : LinkNo = get_or c.args.order.now c.loop-link.link-index (record { 0 = 0 }) in
    let link : at.0 < m = c.requires.order _ c.loop-link-test.true in
    let class = c.requires.classes at.0 link in
    omega (arith, known.exits, each_some_read (Below m) (vec_items c.loop-link.latest) _ _ _ known.latest_below (omega (arith, class, known.latest, c.loop-link.latest.ok.0)) c.index_mut.ensures.value (sym c.replace.ensures.value ∙ c.in-Some.is))

pub loop-link-preserved : goal.loop-link-preserved
loop-link-preserved c =
    let classes = c.args.classes.now in
    let m = length classes in
    let known = c.loop-link.invariant in
    let old = vec_items c.loop-link.latest in
    let at : LinkNo = get_or c.args.order.now c.loop-link.link-index (record { 0 = 0 }) in
    let class = class_at classes at in
    let link : Below m at = c.requires.order _ c.loop-link-test.true in
    let latest = subst (λ (o : Option LinkNo). SomeBelow m (set old class o)) (sym c.replace.ensures.after) (each_some_set (Below m) _ _ _ known.latest_below link) in
    let classed = subst (λ (o : Option LinkNo). (k : ℕ) (x : LinkNo) → get_or (set old class o) k None ≡ Some x → class_at classes x ≡ k) (sym c.replace.ensures.after) (each_some_set_at (λ k x. class_at classes x ≡ k) old class at known.classed refl) in
    elim c.match-replace.branch [
      | in-Some w ↦
          let below = c.requires.classes at.0 link in
          let entry = known.classed class w.in-Some.entry (sym (c.index_mut.ensures.value ∙ get_or_default old class _ None (omega (arith, below, known.latest, c.loop-link.latest.ok.0))) ∙ (sym c.replace.ensures.value ∙ w.in-Some.is)) in
          record {
            exits = ap (λ (v : Vec (Option LinkNo) Global). v.len) w.exits-is ∙ known.exits;
            exits_below = subst (λ (v : Vec (Option LinkNo) Global). SomeBelow m (vec_items v)) (sym w.exits-is) (each_some_set (Below m) _ _ _ known.exits_below link);
            paired = subst (λ (v : Vec (Option LinkNo) Global). Paired classes (vec_items v)) (sym w.exits-is) (each_some_set_at (λ k x. class_at classes (record { 0 = k }) ≡ class_at classes x) (vec_items c.loop-link.exits) w.in-Some.entry.0 at known.paired entry);
            latest = known.latest;
            latest_below = latest;
            classed = classed;
          }
      | in_default w ↦
          record {
            exits = ap (λ (v : Vec (Option LinkNo) Global). v.len) w.exits-is ∙ known.exits;
            exits_below = subst (λ (v : Vec (Option LinkNo) Global). SomeBelow m (vec_items v)) (sym w.exits-is) known.exits_below;
            paired = subst (λ (v : Vec (Option LinkNo) Global). Paired classes (vec_items v)) (sym w.exits-is) known.paired;
            latest = known.latest;
            latest_below = latest;
            classed = classed;
          }
    ]
