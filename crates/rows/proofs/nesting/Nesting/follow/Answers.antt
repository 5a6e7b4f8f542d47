use Rattle.std.proofs.Common.{◌<◌, Option, IfSome, length, vec_items, sym, ap, subst, arith}
use Rattle.std.proofs.lemmas.List.{length_push}
use Rattle.theory.proofs.Elements.{each_set}
use Rattle.model.specs.declared.numbers.LinkNo.{LinkNo}
use Rattle.rows.specs.declared.nesting.Nesting.{Nesting}
use Rattle.rows.specs.Bounds.{Below}
use Rattle.rows.specs.Nests.{Entries, Exits}
use Rattle.rows.proofs.nesting.Nesting.follow.Goals as goal
use Rattle.rows.proofs.nesting.Nesting.follow.Goals.{in-Some+in_ok-inside-in-Some, in-None}

pub invariant_of-self-clause-homed : goal.invariant_of-self-clause-homed
invariant_of-self-clause-homed c =
    let n = length (vec_items c.match-exit.self.fragments) in
    let inside : c.match-exit.inside < n = elim c.match-exit.branch [
      | in-Some+in_ok-inside-in-Some w ↦
          let made = w.in_ok-inside-in-Some.ensures.made in
          omega (arith, w.inside-is, ap (λ (t : Nesting). length (vec_items t.fragments)) w.self-is, made.0, ap length made.1, length_push (vec_items c.args.self.now.fragments))
      | in-None w ↦ omega (arith, w.inside-is, ap (λ (t : Nesting). length (vec_items t.fragments)) w.self-is, c.left-parent.ensures.within)
    ] in
    each_set (λ k. k < n) 0 (vec_items c.match-exit.self.homes) c.args.ends.head.0 c.match-exit.inside c.match-exit.self.homed inside

pub returns-in_err-inside-in-Some-clause-exits : goal.returns-in_err-inside-in-Some-clause-exits
returns-in_err-inside-in-Some-clause-exits c m exit all = c.in_err-inside-in-Some.ensures.exits m (subst (λ (o : Option LinkNo). IfSome o (Below m)) c.in-Some.is exit) all

pub returns-clause-entries : goal.returns-clause-entries
returns-clause-entries c m entry all =
    elim c.match-exit.branch [
      | in-Some+in_ok-inside-in-Some w ↦ subst (λ (t : Nesting). Entries m (vec_items t.fragments)) (sym w.self-is) (w.in_ok-inside-in-Some.ensures.entries m entry all)
      | in-None w ↦ subst (λ (t : Nesting). Entries m (vec_items t.fragments)) (sym w.self-is) all
    ]

pub returns-clause-exits : goal.returns-clause-exits
returns-clause-exits c m exit all =
    elim c.match-exit.branch [
      | in-Some+in_ok-inside-in-Some w ↦ subst (λ (t : Nesting). Exits m (vec_items t.fragments)) (sym w.self-is) (w.in_ok-inside-in-Some.ensures.exits m (subst (λ (o : Option LinkNo). IfSome o (Below m)) w.in-Some.is exit) all)
      | in-None w ↦ subst (λ (t : Nesting). Exits m (vec_items t.fragments)) (sym w.self-is) all
    ]
