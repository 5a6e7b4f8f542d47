-- How many brackets and caps end at a number. Back links can all be counted beforehand, caps as they are made.
use Rattle.std.specs.Prelude.{◌≡◌, ℕ, zero, suc, ◌+◌, ◌-◌, ◌<◌, cond, ◌&&◌, length, ◌==◌}
use Rattle.model.specs.Meaning.{EndsBelow}
use Rattle.model.specs.Walks.{Links}
use Rattle.model.specs.Parts.{how_many}
use Rattle.naming.specs.Names.{ending_at}
use Rattle.naming.specs.Built.{shape_of}
use Rattle.naming.specs.Searched.{Searched, low_second, capped, base_of}
use Rattle.naming.specs.Turns.{later}
use Rattle.naming.specs.DepthFirst.{DepthFirst, to_end, is_back, searched}

-- how many of the first m links are back links that end at p
abbrev pub back_ends : Links → ℕ → (ℕ → ℕ) → (ℕ → ℕ) → ℕ → ℕ → ℕ
back_ends G n number link m p = how_many (λ e. is_back G n number link e && to_end G n number link e == p) m

-- how many of the caps of the m numbers from k on end at p
unfoldable pub cap_ends : Searched → ℕ → ℕ → ℕ → ℕ
cap_ends P zero k p = 0
cap_ends P (suc m) k p = cond (capped P k && low_second P k == p) 1 0 + cap_ends P m (suc k) p

-- Theorem: the two counts together tell how many of the items from the numbers behind v end at v.
abbrev pub EndsCounted : Type 0
EndsCounted =
    (G : Links) (n : ℕ) → EndsBelow n G → (number step parent link : ℕ → ℕ) → DepthFirst G n number step parent link → (v : ℕ) → v < n →
    length (ending_at (shape_of (base_of (searched G n number parent link))) v (later (base_of (searched G n number parent link)) (suc v))) ≡
    back_ends G n number link (length G) v + cap_ends (searched G n number parent link) (n - suc v) (suc v) v
