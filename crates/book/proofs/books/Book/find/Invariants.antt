use Rattle.std.proofs.Common.{◌≡◌, ℕ, ◌+◌, ◌-◌, ◌<◌, ◌≤◌, length, get_or, vec_items}
use Rattle.book.specs.Tables.{runs_in}
use Rattle.book.proofs.books.Book.find.Given as goal

abbrev pub invariant-loop-run : goal.invariant-loop-run
invariant-loop-run l =
    (l.guard.saved ≡ l.initial.guard.saved)
    × (l.guard.cursor.now.next ≤ length (vec_items l.table.entries))
    × ((k : ℕ) → k < l.guard.cursor.now.next → l.found.0 < k → (k ≤ l.home) × (l.home < k + get_or (runs_in (vec_items l.table.entries)) k 0) → ⊥)
    × (l.home < l.guard.cursor.now.next → (l.found.0 ≤ l.home) × (l.home < l.found.0 + get_or (runs_in (vec_items l.table.entries)) l.found.0 0))

abbrev pub decreases-loop-run : goal.decreases-loop-run
decreases-loop-run l = length (vec_items l.table.entries) - l.guard.cursor.now.next
