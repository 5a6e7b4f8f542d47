-- Records of fragments that are there, and the lists that they are moved through.
use Rattle.std.specs.Prelude.{ℕ, ◌<◌, List, [], ◌∷◌, ◌++◌, slice_set}
use Rattle.std.specs.Option.{IsSome}
use Rattle.lists.specs.Many.{row}
use Rattle.rows.specs.Nests.{no_fragment, entry_of, exit_of, SiteIn, LinkIn}
use Rattle.rows.specs.declared.arranging.Record.{Record}

-- of n fragments, number k stands after number j
abbrev pub After : ℕ → ℕ → ℕ → Type 0
After n j k = (j < k) × (k < n)

-- the record's fragment and its parent are among n fragments
abbrev pub Numbered : ℕ → Record → Type 0
Numbered n r = (r.number < n) × SiteIn n r.fragment

-- the same, and its entry and its exit are among m links
abbrev pub Known : ℕ → ℕ → Record → Type 0
Known m n r = Numbered n r × LinkIn entry_of m r.fragment × LinkIn exit_of m r.fragment

-- the record's fragment has a site unless it is number 0, the whole plan
abbrev pub Lies : Record → Type 0
Lies r = 0 < r.number → IsSome r.fragment.site

abbrev pub no_record : Record
no_record = record { number = 0; fragment = no_fragment }

abbrev pub depth_of : Record → ℕ
depth_of r = r.fragment.depth

-- the lists at each of ks, one after the other, are moved in front of the list at k
abbrev pub gathered : {T : Type 0} → List (List T) → ℕ → List ℕ → List (List T)
gathered t k [] = t
gathered t k (c ∷ cs) = gathered (slice_set (slice_set t c []) k (row t c ++ row t k)) k cs
