-- Fragments whose parents are there.
use Rattle.std.specs.Prelude.{◌≡◌, ℕ, ◌<◌, true, cond, List, length, Some, None, Option, ◌==◌, slice_index, slice_index_or}
use Rattle.std.specs.Option.{IsSome}
use Rattle.model.specs.declared.numbers.Ends.{Ends}
use Rattle.model.specs.declared.numbers.LinkNo.{LinkNo}
use Rattle.theory.specs.Each.{Each, EachSome}
use Rattle.rows.specs.declared.nesting.Fragment.{Fragment}
use Rattle.rows.specs.declared.nesting.Site.{Site}
use Rattle.rows.specs.Bounds.{Below}
use Rattle.rows.specs.Kinds.{counted, none_own}

-- the whole plan, before anything is counted
abbrev pub no_fragment : Fragment
no_fragment = record { site = None; depth = 0; own = none_own; inside = 0 }

abbrev pub site_of : Fragment → Option Site
site_of f = f.site

-- the fragment that one is in after a link, from fragment `here`, of that site: a fragment is left by its exit
abbrev pub left_of : Option Site → ℕ → LinkNo → ℕ
left_of None here l = here
left_of (Some s) here l = cond (s.exit.0 == l.0) s.parent here

-- the fragment that the head of a link is at home in: the one that the link enters, or the one that one is in after it
abbrev pub home_after : List Fragment → List ℕ → LinkNo → Ends → Option LinkNo → ℕ
home_after fs homes l e None = let here = slice_index homes e.tail.0 in left_of (slice_index_or fs here no_fragment).site here l
home_after fs homes l e (Some x) = length fs

-- a fragment put in at a site in the fragment around it, with nothing counted yet
abbrev pub put_in : Fragment → Site → Fragment
put_in around s = record { site = Some s; depth = counted around.depth true; own = none_own; inside = 0 }

-- a fragment's parent is among the first n
abbrev pub SiteIn : ℕ → Fragment → Type 0
SiteIn n f = (p : Site) → f.site ≡ Some p → p.parent < n

-- each fragment stands after its parent
abbrev pub Sites : List Fragment → Type 0
Sites fs = (k : ℕ) → k < length fs → SiteIn k (slice_index_or fs k no_fragment)

-- a link of a fragment's site, its entry or its exit, is among m links
abbrev pub LinkIn : (Site → LinkNo) → ℕ → Fragment → Type 0
LinkIn link m f = (p : Site) → f.site ≡ Some p → Below m (link p)

abbrev pub entry_of : Site → LinkNo
entry_of p = p.entry

abbrev pub exit_of : Site → LinkNo
exit_of p = p.exit

-- each fragment's entry is among m links
abbrev pub Entries : ℕ → List Fragment → Type 0
Entries m = Each (LinkIn entry_of m) no_fragment

-- each fragment's exit is among m links
abbrev pub Exits : ℕ → List Fragment → Type 0
Exits m = Each (LinkIn exit_of m) no_fragment

-- each fragment but the first, which is the whole plan, has a site
abbrev pub Placed : List Fragment → Type 0
Placed fs = (k : ℕ) → 0 < k → k < length fs → IsSome (slice_index_or fs k no_fragment).site

-- a fragment that a link enters is there, and not the whole plan
abbrev pub Inner : ℕ → ℕ → Type 0
Inner n k = (0 < k) × (k < n)

abbrev pub Entered : ℕ → List (Option ℕ) → Type 0
Entered n = EachSome (Inner n)
