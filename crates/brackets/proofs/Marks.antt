-- The links of the tree, marked one by one.
use Rattle.std.proofs.Common.{◌≡◌, ℕ, zero, suc, ◌+◌, ◌-◌, ◌<◌, ◌≤◌, Bool, true, false, ◌&&◌, ◌||◌, eqb, ◌⊎◌, List, length, get_or, set, replicate, sym, ap, ◌∙◌, inl, inr, add-one, arith}
use Rattle.std.proofs.lemmas.List.{get_or_read, get_or-set_same, get_or-set_other, get_or-replicate, get_or_past, length-replicate}
use Rattle.std.proofs.lemmas.Bool.{cases_eq, cases_lt, lt-ltb, eq-eqb, ne_eqb}
use Rattle.naming.specs.DepthFirst.{of_tree}
use Rattle.search.specs.Numbered.{none}
use Rattle.search.specs.Spans.{link_of}
use Rattle.search.specs.declared.trees.Visit.{Visit}

-- the tree link of a visit that was read
pub link_read : (vs : List Visit) (k : ℕ) (x : Visit) → k < length vs → x ≡ get_or vs k x → x.link.0 ≡ link_of vs k
link_read vs k x lt e = ap (λ (y : Visit). y.link.0) (get_or_read vs k x lt e none)

more : (link : ℕ → ℕ) (k e : ℕ) → 0 < k → of_tree link (k + 1) e ≡ (eqb (link k) e || of_tree link k e)
unfolding of_tree
more link k e z =
    ap (λ (i : ℕ). of_tree link i e) (add-one k) ∙ ap (λ (b : Bool). (b && eqb (link k) e) || of_tree link k e) (lt-ltb 0 k z)

-- before the first
pub unmarked : (link : ℕ → ℕ) (n : ℕ) (v : List Bool) → v ≡ replicate n false → (e : ℕ) → get_or v e false ≡ of_tree link 1 e
unfolding of_tree
unmarked link n v is e = ap (λ (t : List Bool). get_or t e false) is ∙ pick (cases_lt e n)
  where
    pick : (e < n) ⊎ (n ≤ e) → get_or (replicate n false) e false ≡ false
    pick (inl h) = get_or-replicate n e false false h
    pick (inr h) = get_or_past (replicate n false) e false (let l = length-replicate n false in omega arith)

pub marked_more : (link : ℕ → ℕ) (k x : ℕ) (v : List Bool) → 0 < k → x ≡ link k → x < length v → ((e : ℕ) → get_or v e false ≡ of_tree link k e) →
    (e : ℕ) → get_or (set v x true) e false ≡ of_tree link (k + 1) e
marked_more link k x v z is lt all e = pick (cases_eq e x)
  where
    pick : (e ≡ x) ⊎ (e ≡ x → ⊥) → get_or (set v x true) e false ≡ of_tree link (k + 1) e
    pick (inl q) =
        ap (λ (i : ℕ). get_or (set v x true) i false) q ∙ get_or-set_same v x true false lt ∙
        sym (more link k e z ∙ ap (λ (b : Bool). b || of_tree link k e) (eq-eqb (link k) e (sym is ∙ sym q)))
    pick (inr d) =
        get_or-set_other v x e true false d ∙ all e ∙
        sym (more link k e z ∙ ap (λ (b : Bool). b || of_tree link k e) (ne_eqb (link k) e (λ q. d (sym q ∙ sym is))))

-- after the last, which is none where there is no number
pub all_marked : (link : ℕ → ℕ) (m n e : ℕ) → m ≡ n - 1 → of_tree link (m + 1) e ≡ of_tree link n e
unfolding of_tree
all_marked link m zero e q = ap (λ (i : ℕ). of_tree link (i + 1) e) q
all_marked link m (suc n) e q = ap (λ (i : ℕ). of_tree link i e) (let s : m + 1 ≡ suc n = omega arith in s)
