use Rattle.std.proofs.lemmas.List.{append-nil}
use Rattle.lists.proofs.Chains.{join_frame, join_holds, empty_back, empty_front}
use Rattle.lists.proofs.cells.Arena.join.Goals as goal

pub returns-in_default-clause-joined : goal.returns-in_default-clause-joined
returns-in_default-clause-joined g c = λ xs ys ha hb away. rw (empty_back _ _ xs c.in_default.is ha) hb

pub returns-then-is_none-clause-joined : goal.returns-then-is_none-clause-joined
returns-then-is_none-clause-joined g c = λ xs ys ha hb away. rw (empty_front _ c.args.b ys c.if-is_none.ensures hb, append-nil xs) ha

pub returns-clause-joined : goal.returns-clause-joined
returns-clause-joined g c =
    join_holds _ c.args.a c.args.b c.in-Some.last c.index_mut.result.now c.index_mut.ensures.value c.in-Some.is c.if-is_none.ensures

pub returns-clause-frame : goal.returns-clause-frame
returns-clause-frame g c = λ m xs h ha away. join_frame _ c.args.a c.in-Some.last _ ha c.in-Some.is m xs h away
