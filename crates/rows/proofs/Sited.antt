-- The sites of fragments, where one is read or counted at.
use Rattle.std.proofs.Common.{◌≡◌, ℕ, ◌<◌, List, [], ◌∷◌, ◌++◌, map, length, get_or, vec_items, Some, None, Vec, Option, sym, refl, ap, ◌∙◌, subst, arith}
use Rattle.std.specs.Option.{IsSome}
use Rattle.std.specs.Vec.{with_items}
use Rattle.std.specs.declared.alloc.Global.{Global}
use Rattle.std.proofs.lemmas.List.{get_or_append_left, get_or_default, get_or_push, length-map, length_push, with_items_is}
use Rattle.std.proofs.Math.ListN.{get_or-map}
use Rattle.rows.specs.declared.nesting.Fragment.{Fragment}
use Rattle.rows.specs.declared.nesting.Site.{Site}
use Rattle.model.specs.declared.numbers.LinkNo.{LinkNo}
use Rattle.theory.specs.Each.{Each}
use Rattle.rows.specs.Nests.{no_fragment, site_of, SiteIn, Sites, LinkIn, Placed}

pub site-read : (fs : List Fragment) (k : ℕ) (f : Fragment) (p : Site) → Sites fs → k < length fs → f ≡ get_or fs k f → f.site ≡ Some p → p.parent < k
site-read fs k f p sites lt e is = sites k lt p (ap site_of (get_or_default fs k no_fragment f lt ∙ sym e) ∙ is)

pub length-same : (fs gs : List Fragment) → map site_of gs ≡ map site_of fs → length gs ≡ length fs
length-same fs gs e = sym (length-map gs site_of) ∙ ap length e ∙ length-map fs site_of

site-same : (fs gs : List Fragment) (k : ℕ) → map site_of gs ≡ map site_of fs → site_of (get_or fs k no_fragment) ≡ site_of (get_or gs k no_fragment)
site-same fs gs k e = sym (get_or-map site_of fs k no_fragment) ∙ ap (λ (t : List (Option Site)). get_or t k None) (sym e) ∙ get_or-map site_of gs k no_fragment

-- fragments with the sites of fs
pub sites-same : (fs gs : List Fragment) → map site_of gs ≡ map site_of fs → Sites fs → Sites gs
sites-same fs gs e sites k lt p is =
    let long = length-same fs gs e in
    sites k (omega arith) p (site-same fs gs k e ∙ is)

pub linked-same : (link : Site → LinkNo) (m : ℕ) (fs gs : List Fragment) → map site_of gs ≡ map site_of fs → Each (LinkIn link m) no_fragment fs → Each (LinkIn link m) no_fragment gs
linked-same link m fs gs e linked k lt p is =
    let long = length-same fs gs e in
    linked k (omega arith) p (site-same fs gs k e ∙ is)

pub placed-same : (fs gs : List Fragment) → map site_of gs ≡ map site_of fs → Placed fs → Placed gs
placed-same fs gs e placed k first lt =
    let long = length-same fs gs e in
    subst IsSome (site-same fs gs k e) (placed k first (omega arith))

-- fragments with the sites of v, written back over v
pub written : (v : Vec Fragment Global) (gs : List Fragment) → map site_of gs ≡ map site_of (vec_items v) → map site_of (vec_items (with_items v gs)) ≡ map site_of (vec_items v)
written v gs e = ap (map site_of) (with_items_is v gs (length-same (vec_items v) gs e ∙ sym v.ok.0)) ∙ e

-- the last of some fragments, and those before it
pub site-last : (fs : List Fragment) (f : Fragment) → Sites (fs ++ f ∷ []) → SiteIn (length fs) f
site-last fs f all = subst (SiteIn (length fs)) (get_or_push fs f no_fragment (length fs) refl) (all (length fs) (omega (arith, length_push fs f)))

pub sites-front : (fs : List Fragment) (f : Fragment) → Sites (fs ++ f ∷ []) → Sites fs
sites-front fs f all k lt = subst (SiteIn k) (get_or_append_left fs (f ∷ []) no_fragment k lt) (all k (omega (arith, length_push fs f)))

pub linked-last : (link : Site → LinkNo) (m : ℕ) (fs : List Fragment) (f : Fragment) → Each (LinkIn link m) no_fragment (fs ++ f ∷ []) → LinkIn link m f
linked-last link m fs f all = subst (LinkIn link m) (get_or_push fs f no_fragment (length fs) refl) (all (length fs) (omega (arith, length_push fs f)))

pub linked-front : (link : Site → LinkNo) (m : ℕ) (fs : List Fragment) (f : Fragment) → Each (LinkIn link m) no_fragment (fs ++ f ∷ []) → Each (LinkIn link m) no_fragment fs
linked-front link m fs f all k lt = subst (LinkIn link m) (get_or_append_left fs (f ∷ []) no_fragment k lt) (all k (omega (arith, length_push fs f)))

pub placed-last : (fs : List Fragment) (f : Fragment) → Placed (fs ++ f ∷ []) → 0 < length fs → IsSome f.site
placed-last fs f all first = subst (λ (g : Fragment). IsSome g.site) (get_or_push fs f no_fragment (length fs) refl) (all (length fs) first (omega (arith, length_push fs f)))

pub placed-front : (fs : List Fragment) (f : Fragment) → Placed (fs ++ f ∷ []) → Placed fs
placed-front fs f all k first lt = subst (λ (g : Fragment). IsSome g.site) (get_or_append_left fs (f ∷ []) no_fragment k lt) (all k first (omega (arith, length_push fs f)))
