use Rattle.std.proofs.Common.{vec_items, vec_len, sym, ◌∙◌, subst, arith}
use Rattle.std.proofs.lemmas.List.{length-map}
use Rattle.std.proofs.lemmas.Option.{none-some, same_Some}
use Rattle.lists.specs.Many.{row}
use Rattle.model.specs.Meaning.{pair_of}
use Rattle.brackets.specs.Handled.{name_of}
use Rattle.brackets.specs.Method.{method, back_ends_of}
use Rattle.brackets.specs.Swept.{Swept}
use Rattle.brackets.specs.Turned.{rows_after}
use Rattle.brackets.proofs.Begun.{swept_read}
use Rattle.brackets.proofs.Handling.{Turned, turned_by}
use Rattle.brackets.proofs.Seen.{parent_read}
use Rattle.brackets.proofs.holding.Sweep.turn.Goals as goal
use Rattle.brackets.proofs.holding.Sweep.turn.Goals.{In_ok-name}

told : (c : In_ok-name) → Turned c.args.search.now c.args.self.now c.args.v (vec_len c.args.self.now.levels) c.len.result c.index.result.now.parent
told c =
    let s = c.args.search.now in
    let w = c.args.self.now in
    let H = c.requires.handled in
    turned_by s c.requires.whole c.args.v c.requires.inner c.requires.within w H (vec_len w.levels) c.len.result c.index.result.now.parent
    (omega (arith, H.long, w.levels.ok.0)) (omega (arith, c.len.ensures, s.links.ok.0, length-map (vec_items s.links) pair_of))
    (parent_read (vec_items s.tree.visits) c.args.v c.index.result.now c.requires.within c.index.ensures)

pub unreachable-requires : goal.unreachable-requires
unreachable-requires c =
    let t = told (goal.at.unreachable-requires c).In_ok-name in none-some (name_of c.args.search.now c.args.v) (sym c.in_default.is ∙ (c.in_ok-name.ensures.counts t.0).0 ∙ t.1)

pub returns : goal.returns
returns c =
    let s = c.args.search.now in
    let w = c.args.self.now in
    let v = c.args.v in
    let t = told (goal.at.returns c).In_ok-name in
    let now = c.in_ok-name.ensures.counts t.0 in
    let rows = rows_after (vec_len w.levels) c.len.result (vec_items w.levels) (row w.brackets) v c.index.result.now.parent in (
      same_Some c.in-Some.name (name_of s v) (sym c.in-Some.is ∙ now.0 ∙ t.1),
      swept_read (method s) (back_ends_of s) v c.handle.new.self.brackets rows (vec_items c.handle.new.self.levels) c.in_ok-name.ensures.rows
          (omega (arith, c.handle.new.self.lists, c.handle.ensures.len, c.requires.handled.long, w.levels.ok.0)) (omega (arith, c.requires.within))
          (subst (Swept (method s) (back_ends_of s) v rows) (sym now.1) t.2),
    )
