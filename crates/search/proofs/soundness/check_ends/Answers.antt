use Rattle.std.proofs.Common.{◌≡◌, rules}
use borrow.Author.Tests.{tests}
use Rattle.std.proofs.lemmas.Iterator.{YieldsList-from_slice, IsFirst-from_position}
use Rattle.model.specs.declared.numbers.Ends.{Ends}
use Rattle.search.proofs.Shaping.{none_of, found_of}
use Rattle.search.proofs.soundness.check_ends.Goals as goal

pub returns-in-Some : goal.returns-in-Some
returns-in-Some c =
    let s = c.args.graph.now.first.0 in
    let w = IsFirst-from_position _ _ c.position.result (λ (e : Ends). e.head.0 ≡ s) (λ (e : Ends). e.head.0 ≡ s → ⊥) c.position.ensures.ran
    (YieldsList-from_slice c.as_slice-links.result.now cc) (λ x q k. search (rules, tests)) (λ x q k. search (rules, tests)) in
    found_of (λ p. p.1 ≡ s) _ _ c.in-Some.i c.as_slice-links.ensures.value (rw c.in-Some.is at w)

pub returns-in-Some-position : goal.returns-in-Some-position
returns-in-Some-position c =
    let s = c.args.graph.now.first.0 in
    let t = c.args.graph.now.last.0 in
    let w = IsFirst-from_position _ _ c.position.result (λ (e : Ends). e.head.0 ≡ s) (λ (e : Ends). e.head.0 ≡ s → ⊥) c.position.ensures.ran
    (YieldsList-from_slice c.as_slice-links.result.now cc) (λ x q k. search (rules, tests)) (λ x q k. search (rules, tests)) in
    let v = IsFirst-from_position _ _ c.position-2.result (λ (e : Ends). e.tail.0 ≡ t) (λ (e : Ends). e.tail.0 ≡ t → ⊥) c.position-2.ensures.ran
    (YieldsList-from_slice c.as_slice-links.result.now cc) (λ x q k. search (rules, tests)) (λ x q k. search (rules, tests)) in
    let f = found_of (λ p. p.0 ≡ t) _ _ c.in-Some-position.i c.as_slice-links.ensures.value (rw c.in-Some-position.is at v) in
    (none_of (λ p. p.1 ≡ s) _ _ c.as_slice-links.ensures.value (rw c.in_default.is at w), f.0, f.1, f.2)

pub returns : goal.returns
returns c =
    let s = c.args.graph.now.first.0 in
    let t = c.args.graph.now.last.0 in
    let w = IsFirst-from_position _ _ c.position.result (λ (e : Ends). e.head.0 ≡ s) (λ (e : Ends). e.head.0 ≡ s → ⊥) c.position.ensures.ran
    (YieldsList-from_slice c.as_slice-links.result.now cc) (λ x q k. search (rules, tests)) (λ x q k. search (rules, tests)) in
    let v = IsFirst-from_position _ _ c.position-2.result (λ (e : Ends). e.tail.0 ≡ t) (λ (e : Ends). e.tail.0 ≡ t → ⊥) c.position-2.ensures.ran
    (YieldsList-from_slice c.as_slice-links.result.now cc) (λ x q k. search (rules, tests)) (λ x q k. search (rules, tests)) in
    (none_of (λ p. p.1 ≡ s) _ _ c.as_slice-links.ensures.value (rw c.in_default.is at w), none_of (λ p. p.0 ≡ t) _ _ c.as_slice-links.ensures.value (rw c.in_default-position.is at v))
