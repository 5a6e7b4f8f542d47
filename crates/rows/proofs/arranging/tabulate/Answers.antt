use Rattle.std.proofs.Common.{◌≡◌, ◌+◌, ◌-◌, ◌<◌, ◌++◌, ℕ, suc, List, [], ◌∷◌, take, length, Option, IfSome, vec_items, sym, ap, ◌∙◌, subst, arith, length-set}
use Rattle.std.specs.List.{All}
use Rattle.std.proofs.Math.Seq.{take-nil}
use Rattle.std.proofs.lemmas.List.{get_or-set_same, append_assoc, append-nil}
use Rattle.lists.specs.Rows.{rest}
use Rattle.lists.specs.Many.{row}
use Rattle.lists.proofs.Many.{top_none, top_some, all_top, all_rest}
use Rattle.theory.proofs.Elements.{each_set}
use Rattle.rows.specs.declared.arranging.Record.{Record}
use Rattle.rows.proofs.arranging.tabulate.Goals as goal
use Rattle.rows.proofs.arranging.tabulate.Goals.{else-loop-row-test, then-loop-row-test+in_default}

-- the next of the first records is moved over
moved : (rs xs ys : List Record) (r : Record) (j k : ℕ) → xs ≡ r ∷ ys → k ≡ suc j → (rs ++ r ∷ []) ++ take j ys ≡ rs ++ take k xs
moved rs xs ys r j k e s = append_assoc rs (r ∷ []) (take j ys) ∙ ap (λ (t : List Record). rs ++ t) (sym (ap (take k) e ∙ ap (λ (i : ℕ). take i (r ∷ ys)) s))

pub index_mut-requires : goal.index_mut-requires
index_mut-requires c =
    let n = length c.args.below in
    let known = c.loop-row.invariant in
    let lt = subst (λ (o : Option Record). IfSome o (λ r. r.number < n)) (sym c.in-Some.ensures.top) (all_top (λ (r : Record). r.number < n) (row c.loop-row.below 0) known.known) in
    omega (arith, lt, known.each, c.loop-row.row_of.ok.0)

pub loop-row-preserved : goal.loop-row-preserved
loop-row-preserved c =
    let n = length c.args.below in
    let k = c.loop-row.row in
    let old = c.loop-row.below in
    let known = c.loop-row.invariant in
    let lt : 0 < length old = omega (arith, known.long, c.requires.some) in
    let within : k < n = omega (arith, c.loop-row-test.true, c.len-count.ensures) in
    let popped = c.in-Some.ensures.lists in
    let left : row c.pop_at.new.self 0 ≡ rest (row old 0) = ap (λ (t : List (List Record)). row t 0) popped ∙ get_or-set_same old 0 (rest (row old 0)) _ lt in
    let first = top_some c.in-Some.record (row old 0) c.in-Some.ensures.top in
    record {
      long = ap length popped ∙ length-set old 0 (rest (row old 0)) ∙ known.long;
      taken = ap (λ (t : List Record). t ++ take (n - (k + 1)) (row c.pop_at.new.self 0)) c.in_ok-push.ensures.items ∙ ap (λ (t : List Record). (vec_items c.loop-row.records ++ c.in-Some.record ∷ []) ++ take (n - (k + 1)) t) left
          ∙ moved (vec_items c.loop-row.records) (row old 0) (rest (row old 0)) c.in-Some.record (n - (k + 1)) (n - k) first (omega (arith, within)) ∙ known.taken;
      known = subst (All (λ (r : Record). r.number < n)) (sym left) (all_rest (λ (r : Record). r.number < n) (row old 0) known.known);
      each = length-set (vec_items c.loop-row.row_of) c.in-Some.record.number _ ∙ known.each;
      rows = each_set (λ r. r < n) 0 (vec_items c.loop-row.row_of) c.in-Some.record.number _ known.rows within;
    }

pub returns : goal.returns
returns c =
    let n = length c.args.below in
    let k = c.loop-row.row in
    let rs = vec_items c.loop-row.records in
    let left = row c.loop-row.below 0 in
    let known = c.loop-row.invariant in
    let all : take (n - k) left ≡ [] → rs ≡ take n (row c.args.below 0) = λ e. sym (append-nil rs) ∙ (ap (λ (t : List Record). rs ++ t) (sym e) ∙ known.taken) in
    elim c.loop-row-test.branch [
      | else-loop-row-test w ↦
          let end : n - k ≡ 0 = omega (arith, w.loop-row-test.false, c.len-count.ensures) in
          (all (ap (λ (i : ℕ). take i left) end), known.each, known.rows)
      | then-loop-row-test+in_default w ↦ (all (ap (take (n - k)) (top_none left (sym w.in_default.is ∙ w.pop_at.ensures.top)) ∙ take-nil (n - k)), known.each, known.rows)
    ]
