-- What the program reads, in the words of the specification.
use Rattle.std.proofs.Common.{◌≡◌, ℕ, zero, suc, ◌+◌, ◌<◌, ◌≤◌, Bool, true, false, cond, ◌&&◌, eqb, ◌⊎◌, List, map, length, get_or, sym, ap, ◌∙◌, inl, inr, arith}
use Rattle.std.proofs.lemmas.List.{get_or_read, get_or-map, length-map}
use Rattle.std.proofs.lemmas.Bool.{cases_Bool}
use Rattle.model.specs.declared.numbers.Ends.{Ends}
use Rattle.model.specs.Meaning.{tail_of, head_of, pair_of, ends_from}
use Rattle.model.specs.Parts.{how_many}
use Rattle.naming.specs.Searched.{Searched, low_second, capped}
use Rattle.naming.specs.Ended.{cap_ends}
use Rattle.search.specs.Numbered.{none}
use Rattle.search.specs.Spans.{par_of}
use Rattle.search.specs.declared.trees.Visit.{Visit}
use Rattle.brackets.specs.declared.levels.Level.{Level}
use Rattle.brackets.specs.Levels.{bare, level}

pub level_read : (ls : List Level) (k : ℕ) (x : Level) → k < length ls → x ≡ get_or ls k x → x ≡ level ls k
level_read ls k x lt e = get_or_read ls k x lt e (bare 0)

pub parent_read : (vs : List Visit) (k : ℕ) (x : Visit) → k < length vs → x ≡ get_or vs k x → x.parent ≡ par_of vs k
parent_read vs k x lt e = ap (λ (y : Visit). y.parent) (get_or_read vs k x lt e none)

-- the link at k of a closed plan
pub ends_at : (xs ys : List Ends) (k : ℕ) → xs ≡ ys → k < length xs →
    (k < length (map pair_of ys)) × ((get_or xs k (ends_from (0, 0))).tail.0 ≡ tail_of (map pair_of ys) k) × ((get_or xs k (ends_from (0, 0))).head.0 ≡ head_of (map pair_of ys) k)
ends_at xs ys k e lt =
    let q = sym (get_or-map pair_of xs k (ends_from (0, 0)) (0, 0) lt) ∙ ap (λ (zs : List Ends). get_or (map pair_of zs) k (0, 0)) e in
    (omega (arith, length-map ys pair_of, ap length e), ap (λ (p : ℕ × ℕ). p.0) q, ap (λ (p : ℕ × ℕ). p.1) q)

-- the counts stay small
pub how_many_most : (t : ℕ → Bool) (n : ℕ) → how_many t n ≤ n
how_many_most t zero = omega arith
how_many_most t (suc n) = pick (cases_Bool (t n)) (how_many_most t n)
  where
    pick : (t n ≡ true) ⊎ (t n ≡ false) → how_many t n ≤ n → cond (t n) 1 0 + how_many t n ≤ suc n
    pick (inl e) r = rw e (omega arith)
    pick (inr e) r = rw e (omega arith)

pub cap_ends_most : (P : Searched) (m k p : ℕ) → cap_ends P m k p ≤ m
unfolding cap_ends
cap_ends_most P zero k p = omega arith
cap_ends_most P (suc m) k p = pick (cases_Bool (capped P k && eqb (low_second P k) p)) (cap_ends_most P m (suc k) p)
  where
    pick : ((capped P k && eqb (low_second P k) p) ≡ true) ⊎ ((capped P k && eqb (low_second P k) p) ≡ false) → cap_ends P m (suc k) p ≤ m →
        cond (capped P k && eqb (low_second P k) p) 1 0 + cap_ends P m (suc k) p ≤ suc m
    pick (inl e) r = rw e (omega arith)
    pick (inr e) r = rw e (omega arith)
