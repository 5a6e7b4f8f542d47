-- The runs that the entries of a table carry.
use Rattle.std.proofs.Common.{◌≡◌, ℕ, ◌+◌, ◌<◌, ◌≤◌, List, map, length, get_or, None, refl, sym, ap, ◌∙◌, subst, arith}
use Rattle.std.proofs.lemmas.List.Elements.{All-map}
use Rattle.std.proofs.lemmas.Grind.{common_steps}
use Rattle.std.proofs.lemmas.Simd.{map-map}
use Rattle.rows.specs.declared.listing.RowRun.{RowRun}
use Rattle.rows.specs.Runs.{NestedRuns}
use Rattle.book.specs.declared.tables.Entry.{Entry}
use Rattle.book.specs.Tables.{entry_of, runs_in, NoneOut}

pub runs_of_entries : (rs : List RowRun) (es : List Entry) → es ≡ map entry_of rs → NestedRuns (map (λ (r : RowRun). r.run) rs) → NestedRuns (runs_in es)
runs_of_entries rs es e h = subst NestedRuns (sym (ap runs_in e ∙ map-map _ _ _)) h

-- the run of an entry ends within the table
pub run_within : (es : List Entry) (i : ℕ) (x : Entry) → NestedRuns (runs_in es) → i < length es → x ≡ get_or es i x → i + x.run ≤ length es
run_within es i x h lt e = let r = h.room i in grind (arith, common_steps)

pub none_out : (rs : List RowRun) (es : List Entry) → es ≡ map entry_of rs → NoneOut es
none_out rs es e = subst NoneOut (sym e) (All-map (λ (x : Entry). x.holder ≡ None) entry_of rs (λ k d lt. refl))
