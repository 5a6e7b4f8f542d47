-- Steps counted at their homes.
use Rattle.std.proofs.Common.{◌≡◌, ℕ, ◌⊎◌, List, [], ◌∷◌, map, length, get_or, set, vec_items, Vec, refl, ap, ◌∙◌, inl, inr, arith, ◌+◌, ◌<◌, true, drop, sym, length-set}
use Rattle.std.proofs.lemmas.List.{get_or_default, drop_more}
use Rattle.std.proofs.Math.Seq.{map-set_same}
use Rattle.std.specs.Vec.{with_items}
use Rattle.std.specs.declared.alloc.Global.{Global}
use Rattle.model.specs.declared.numbers.Ends.{Ends}
use Rattle.model.specs.declared.numbers.Logic.{Logic}
use Rattle.rows.specs.declared.counting.Degree.{Degree}
use Rattle.rows.specs.declared.nesting.Fragment.{Fragment}
use Rattle.rows.specs.Counts.{count_at, counted_by, linked_by}
use Rattle.rows.specs.Listed.{degree_at}
use Rattle.rows.specs.Kinds.{branching, counted}
use Rattle.rows.specs.Nests.{no_fragment, site_of}
use Rattle.rows.proofs.Sited.{written}

pub sites-counted : (fs : List Fragment) (hs : List ℕ) (ls : List Logic) (ds : List Degree) → map site_of (counted_by fs hs ls ds) ≡ map site_of fs
sites-counted fs [] ls ds = refl
sites-counted fs (h ∷ hs) [] ds = refl
sites-counted fs (h ∷ hs) (l ∷ ls) [] = refl
sites-counted fs (h ∷ hs) (l ∷ ls) (d ∷ ds) =
    sites-counted (set fs h (count_at (get_or fs h no_fragment) l (branching d))) hs ls ds
    ∙ map-set_same site_of fs h (count_at (get_or fs h no_fragment) l (branching d)) no_fragment refl

-- the step of the first home is counted
pub counted_by-first : (fs : List Fragment) (h : ℕ) (l : Logic) (d : Degree) (hs hs' : List ℕ) (ls ls' : List Logic) (ds ds' : List Degree) → hs ≡ h ∷ hs' → ls ≡ l ∷ ls' → ds ≡ d ∷ ds' → counted_by fs hs ls ds ≡ counted_by (set fs h (count_at (get_or fs h no_fragment) l (branching d))) hs' ls' ds'
counted_by-first fs h l d hs hs' ls ls' ds ds' e f g =
    ap (λ (t : List ℕ). counted_by fs t ls ds) e ∙ ap (λ (t : List Logic). counted_by fs (h ∷ hs') t ds) f ∙ ap (λ (t : List Degree). counted_by fs (h ∷ hs') (l ∷ ls') t) g

-- no step is left
pub counted_by-none : (fs : List Fragment) (hs : List ℕ) (ls : List Logic) (ds : List Degree) → (length hs ≡ 0) ⊎ ((length ls ≡ 0) ⊎ (length ds ≡ 0)) → counted_by fs hs ls ds ≡ fs
counted_by-none fs [] ls ds w = refl
counted_by-none fs (h ∷ hs) [] ds w = refl
counted_by-none fs (h ∷ hs) (l ∷ ls) [] w = refl
counted_by-none fs (h ∷ hs) (l ∷ ls) (d ∷ ds) (inl e) = absurd (omega arith)
counted_by-none fs (h ∷ hs) (l ∷ ls) (d ∷ ds) (inr (inl e)) = absurd (omega arith)
counted_by-none fs (h ∷ hs) (l ∷ ls) (d ∷ ds) (inr (inr e)) = absurd (omega arith)

-- fragments of a vector, counted at and written back; and those again with no site changed
pub sites-own : (v : Vec Fragment Global) (first own : List Fragment) (hs : List ℕ) (ls : List Logic) (ds : List Degree) → first ≡ vec_items v → own ≡ counted_by first hs ls ds → map site_of (vec_items (with_items v own)) ≡ map site_of (vec_items v)
sites-own v first own hs ls ds e o = written v own (ap (map site_of) o ∙ sites-counted first hs ls ds ∙ ap (map site_of) e)

pub sites-kept : (v : Vec Fragment Global) (first own second inside : List Fragment) (hs : List ℕ) (ls : List Logic) (ds : List Degree) → first ≡ vec_items v → own ≡ counted_by first hs ls ds → second ≡ vec_items (with_items v own) → map site_of inside ≡ map site_of second → map site_of (vec_items (with_items (with_items v own) inside)) ≡ map site_of (vec_items v)
sites-kept v first own second inside hs ls ds e o f i = written (with_items v own) inside (i ∙ ap (map site_of) f) ∙ sites-own v first own hs ls ds e o

-- a link whose degrees were read and written one after the other
abbrev with_outs : Degree → ℕ → Degree
with_outs d n = record { ins = d.ins; outs = n }

abbrev with_ins : Degree → ℕ → Degree
with_ins d n = record { ins = n; outs = d.outs }

pub linked_by-more : (ds : List Degree) (es : List Ends) (i : ℕ) (e : Ends) (t h : Degree) (outs ins : ℕ) → i < length es → ((d : Ends) → e ≡ get_or es i d) → e.tail.0 < length ds → e.head.0 < length ds → t ≡ get_or ds e.tail.0 t → outs ≡ counted t.outs true → h ≡ get_or (set ds e.tail.0 (record { ins = t.ins; outs = outs })) e.head.0 h → ins ≡ counted h.ins true
    → linked_by (set (set ds e.tail.0 (record { ins = t.ins; outs = outs })) e.head.0 (record { ins = ins; outs = h.outs })) (drop (i + 1) es) ≡ linked_by ds (drop i es)
linked_by-more ds es i e t h outs ins lt read tl hl te oe he ie =
    ap (λ (l : List Degree). linked_by l (drop (i + 1) es)) (ap (λ (l : List Degree). set l e.head.0 (with_ins h ins)) lists ∙ ap (λ (d : Degree). set left e.head.0 d) right) ∙ sym (ap (linked_by ds) first)
  where
    left : List Degree
    left = set ds e.tail.0 (with_outs (degree_at ds e.tail) (counted (degree_at ds e.tail).outs true))

    lists : set ds e.tail.0 (with_outs t outs) ≡ left
    lists = ap (λ (d : Degree). set ds e.tail.0 d) (ap (with_outs t) oe ∙ ap (λ (d : Degree). with_outs d (counted d.outs true)) (te ∙ get_or_default ds e.tail.0 t (record { ins = 0; outs = 0 }) tl))

    here : h ≡ degree_at left e.head
    here = he ∙ get_or_default (set ds e.tail.0 (with_outs t outs)) e.head.0 h (record { ins = 0; outs = 0 }) (omega (arith, length-set ds e.tail.0 (with_outs t outs))) ∙ ap (λ (l : List Degree). degree_at l e.head) lists

    right : with_ins h ins ≡ with_ins (degree_at left e.head) (counted (degree_at left e.head).ins true)
    right = ap (with_ins h) ie ∙ ap (λ (d : Degree). with_ins d (counted d.ins true)) here

    first : drop i es ≡ e ∷ drop (i + 1) es
    first = drop_more es i e lt ∙ ap (λ (d : Ends). d ∷ drop (i + 1) es) (sym (read e))
