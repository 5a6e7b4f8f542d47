-- The run of a row: itself and the rows after it that are deeper.
use Rattle.std.specs.Prelude.{ℕ, ◌+◌, ◌<◌, ◌≤◌, List, length, slice_index}

abbrev pub depth_at : List ℕ → ℕ → ℕ
depth_at depths i = slice_index depths i

-- the r rows from row i on are row i and the rows after it, up to the next that is not deeper
pub record RunAt (depths : List ℕ) (i r : ℕ) : Type 0 where
  pub some : 1 ≤ r
  pub room : i + r ≤ length depths
  pub deeper : (k : ℕ) → i < k → k < i + r → depth_at depths i < depth_at depths k
  pub ends : i + r < length depths → depth_at depths (i + r) ≤ depth_at depths i

-- every row has its run in the list
abbrev pub RunsFrom : List ℕ → ℕ → List ℕ → Type 0
RunsFrom depths from runs = (i : ℕ) → from ≤ i → i < length depths → RunAt depths i (slice_index runs i)

-- runs that end within the table, of which one that begins inside another ends inside it
pub record NestedRuns (runs : List ℕ) : Type 0 where
  pub some : (i : ℕ) → i < length runs → 1 ≤ slice_index runs i
  pub room : (i : ℕ) → i < length runs → i + slice_index runs i ≤ length runs
  pub inner : (i j : ℕ) → i < j → j < i + slice_index runs i → j + slice_index runs j ≤ i + slice_index runs i
