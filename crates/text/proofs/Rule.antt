-- The rule of the digit table: `entries n i` is the table from the rule, which the check compares with the program's by computing it.
use Rattle.std.proofs.Common.{◌≡◌, ℕ, zero, suc, ◌+◌, ◌<◌, List, [], ◌∷◌, get_or, sym, ap, ◌∙◌, le_of_suc-le-suc, not-suc-le-zero, add-zero, add-suc, suc-add, zero-add}
use Rattle.text.specs.Digit.{entry_of}

abbrev pub entries : ℕ → ℕ → List ℕ
entries zero i = []
entries (suc n) i = entry_of i ∷ entries n (suc i)

at_entry : (n i k : ℕ) → k < n → get_or (entries n i) k 0 ≡ entry_of (i + k)
at_entry zero i k h = absurd (not-suc-le-zero h)
at_entry (suc n) i zero h = ap entry_of (sym (add-zero i))
at_entry (suc n) i (suc k) h = at_entry n (suc i) k (le_of_suc-le-suc h) ∙ ap entry_of (suc-add i k ∙ sym (add-suc i k))

pub rule : (b : ℕ) → b < 256 → get_or (entries 256 0) b 0 ≡ entry_of b
rule b h = at_entry 256 0 b h ∙ ap entry_of (zero-add b)
