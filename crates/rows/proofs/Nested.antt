-- Runs by depth nest.
use Rattle.std.proofs.Common.{◌≡◌, ℕ, ◌+◌, ◌<◌, ◌≤◌, ◌⊎◌, List, length, get_or, inl, inr, arith}
use Rattle.std.proofs.lemmas.List.{get_or_past}
use Rattle.std.proofs.lemmas.Bool.{cases_lt}
use Rattle.rows.specs.Runs.{RunAt, RunsFrom, NestedRuns}

pub nested : (depths runs : List ℕ) → length runs ≡ length depths → RunsFrom depths 0 runs → NestedRuns runs
nested depths runs e told =
    record {
      some = λ i lt. (at i lt).some;
      room = λ i lt. let r = (at i lt).room in omega arith;
      inner = inner;
    }
  where
    at : (i : ℕ) → i < length runs → RunAt depths i (get_or runs i 0)
    at i lt = told i (omega arith) (omega arith)

    inner_at : (i j : ℕ) → i < length runs → i < j → j < i + get_or runs i 0 → j + get_or runs j 0 ≤ i + get_or runs i 0
    inner_at i j li ij jr = go (cases_lt (i + get_or runs i 0) (j + get_or runs j 0))
      where
        lj : j < length runs
        lj = let r = (at i li).room in omega arith

        -- the row after the run of i would be deeper than j, and j is deeper than i
        go : (i + get_or runs i 0 < j + get_or runs j 0) ⊎ (j + get_or runs j 0 ≤ i + get_or runs i 0) → j + get_or runs j 0 ≤ i + get_or runs i 0
        go (inr h) = h
        go (inl h) =
            let r = (at j lj).room in
            let a = (at i li).deeper j ij jr in
            let b = (at j lj).deeper (i + get_or runs i 0) jr h in
            let c = (at i li).ends (omega arith) in
            absurd (omega arith)

    -- past the end there is no run
    inner : (i j : ℕ) → i < j → j < i + get_or runs i 0 → j + get_or runs j 0 ≤ i + get_or runs i 0
    inner i j ij jr = pick (cases_lt i (length runs))
      where
        pick : (i < length runs) ⊎ (length runs ≤ i) → j + get_or runs j 0 ≤ i + get_or runs i 0
        pick (inl li) = inner_at i j li ij jr
        pick (inr h) = absurd (omega (arith, get_or_past runs i 0 h))
