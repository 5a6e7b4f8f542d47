use Rattle.std.proofs.Common.{ℕ, length, vec_items, vec_len, sym, subst, arith}
use Rattle.classes.specs.Held.{Held}
use Rattle.classes.proofs.Sweeps.{named_held, turned_held}
use Rattle.classes.proofs.sweeping.Naming.turn.Goals as goal

pub first_named-requires-clause-top : goal.first_named-requires-clause-top
first_named-requires-clause-top c =
    let w = c.args.self.now in
    named_held (length (vec_items w.names.latest)) (vec_len w.sweep.levels) w.names.links (vec_items w.sweep.levels) w.sweep.brackets c.args.v (omega (arith, w.caps, c.requires.within)) w.held c.in_ok-name.name c.in_ok-name.ensures.top

pub invariant_of-self-2 : goal.invariant_of-self-2
invariant_of-self-2 c =
    let w = c.args.self.now in
    let f = c.first_named.ensures in
    record {
      held = subst (λ (n : ℕ). Held n c.handle.new.self.brackets) (sym f.len)
          (turned_held (length (vec_items w.names.latest)) (vec_len w.sweep.levels) w.names.links (vec_items w.sweep.levels) w.sweep.brackets c.args.v (omega (arith, w.caps, c.requires.within)) w.held
          c.args.visit.parent c.handle.new.self.brackets c.in_ok-name.ensures.rows);
      caps = omega (arith, w.caps, c.handle.ensures.len, f.links, f.len);
      few = omega (arith, w.few, c.handle.ensures.len, f.links);
    }
