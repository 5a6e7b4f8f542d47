use Rattle.std.proofs.Common.{◌≡◌, get_or, arith}
use Rattle.lists.proofs.Chains.{default_nil}
use Rattle.lists.proofs.Tables.{shows, shown, shown_table, back_at, join_fits, join_total, join_shows}
use Rattle.lists.proofs.table.Lists.join_at.Goals as goal

pub join-joined-requires : goal.join-joined-requires
join-joined-requires g c =
    let s = shows c.args.self.now c.self.invariant c.self.view_is in
    let ea : c.take-a.result ≡ get_or c.self.inside.chains.items c.args.j c.take-a.result = rw c.take-a.ensures.value c.index_mut.ensures.value in
    let ez = default_nil c.take-a.new.dest c.take-a.ensures.after in
    record {
      within = λ k q. omega (arith, c.self.inside.arena.cells.ok.0, back_at s c.args.j _ c.requires.j_within ea k q);
      fits = omega (arith, c.self.invariant.counted, c.self.invariant.few, join_fits s c.args.i c.args.j _ _ _ c.requires.i_within c.requires.j_within c.requires.other ea ez c.index-b.ensures);
    }

pub invariant_of-self : goal.invariant_of-self
invariant_of-self g c =
    let s = shows c.args.self.now c.self.invariant c.self.view_is in
    let ea : c.take-a.result ≡ get_or c.self.inside.chains.items c.args.j c.take-a.result = rw c.take-a.ensures.value c.index_mut.ensures.value in
    let ez = default_nil c.take-a.new.dest c.take-a.ensures.after in
    let e = c.join-joined.ensures in
    let same = e.cells in
    shown_table (join_shows s c.args.i c.args.j _ _ _ c.requires.i_within c.requires.j_within c.requires.other ea ez c.index-b.ensures _ c.join-joined.result e.joined e.frame e.apart)
    (omega (arith, c.self.invariant.counted, join_total s c.args.i c.args.j _ _ _ c.requires.i_within c.requires.j_within c.requires.other ea ez c.index-b.ensures c.join-joined.result e.size))
    (omega (arith, c.self.invariant.few))

pub returns : goal.returns
returns g c =
    let s = shows c.args.self.now c.self.invariant c.self.view_is in
    let ea : c.take-a.result ≡ get_or c.self.inside.chains.items c.args.j c.take-a.result = rw c.take-a.ensures.value c.index_mut.ensures.value in
    let ez = default_nil c.take-a.new.dest c.take-a.ensures.after in
    let e = c.join-joined.ensures in
    shown (join_shows s c.args.i c.args.j _ _ _ c.requires.i_within c.requires.j_within c.requires.other ea ez c.index-b.ensures _ c.join-joined.result e.joined e.frame e.apart)
