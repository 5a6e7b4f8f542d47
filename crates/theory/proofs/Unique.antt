-- Two listings of one sound plan are equal.
use Rattle.std.proofs.Common.{◌≡◌, ℕ, zero, suc, ◌<◌, ◌≤◌, ◌≢◌, ◌⊎◌, List, [], ◌∷◌, length, get_or, Some, sym, ap, ◌∙◌, subst, inl, inr, arith}
use Rattle.std.proofs.lemmas.List.{ext_get_or}
use Rattle.std.proofs.lemmas.Bool.{cases_eq, cases_order}
use Rattle.model.specs.Meaning.{Meaning}
use Rattle.model.specs.Walks.{Sound}
use Rattle.model.specs.Parts.{Part, whole, fragment, In, Proper, Holds, Counted}
use Rattle.model.specs.Kinds.{KindOf}
use Rattle.model.specs.Words.{kind_number}
use Rattle.model.specs.Listing.{Row, row, Parent, Listing}
use Rattle.model.specs.declared.kinds.Kind.{Kind}
use Rattle.model.specs.declared.kinds.Kind.TheVariants.{Whole, Single, Choice, Parallel, Loop, MeshOne, MeshAll, Mixed}
use Rattle.theory.proofs.Insides.{least}
use Rattle.theory.proofs.Counting.{exactly_le}

unfoldable pub kind_at : ℕ → Kind
kind_at n = get_or (Whole ∷ Single ∷ Choice ∷ Parallel ∷ Loop ∷ MeshOne ∷ MeshAll ∷ Mixed ∷ []) n Mixed

pub kind_back : (k : Kind) → kind_at (kind_number k) ≡ k
unfolding kind_at
kind_back k = grind arith

-- a part has one kind
pub one_kind : (μ : Meaning) (p : Part) (j k : Kind) → KindOf μ p j → KindOf μ p k → j ≡ k
one_kind μ whole j k x y = x ∙ sym y
one_kind μ (fragment a b) j k x y = pick (cases_order (kind_number j) (kind_number k))
  where
    pick : (kind_number j ≡ kind_number k) ⊎ ((kind_number j < kind_number k) ⊎ (kind_number k < kind_number j)) → j ≡ k
    pick (inl e) = sym (kind_back j) ∙ ap kind_at e ∙ kind_back k
    pick (inr (inl l)) = absurd (y.1 j l x.0)
    pick (inr (inr l)) = absurd (x.1 k l y.0)

-- facts on one listing
module _ (μ : Meaning) (sound : Sound μ.graph) (xs : List Row) (L : Listing μ xs) where
  abbrev pub part : ℕ → Part
  part i = (row xs i).part

  pub proper : (i : ℕ) → i < length xs → Proper μ.graph (part i)
  proper i l = pick (cases_eq i 0)
    where
      P : Part → Type 0
      P = Proper μ.graph

      pick : (i ≡ 0) ⊎ (i ≡ 0 → ⊥) → Proper μ.graph (part i)
      pick (inl e) = subst P (sym (ap (λ (k : ℕ). (row xs k).part) e ∙ L.top)) tt
      pick (inr n) = let c = L.canonical i (omega arith) l in subst P (sym c.2) c.3

  -- two rows that hold each other are one
  pub both : (i j : ℕ) → i < length xs → j < length xs → Holds μ.graph (part i) (part j) → Holds μ.graph (part j) (part i) → i ≡ j
  both i j li lj h k =
      let a : i ≢ j → i < j = λ n. L.after i j li lj (n, h) in
      let b : i ≢ j → j < i = λ n. L.after j i lj li (λ e. n (sym e), k) in
      grind (arith, cases_eq i j)

  -- the parent lies in every other row that holds the row
  pub parent_least :
      (i j k : ℕ) → j < length xs → Parent μ.graph xs i j → k < length xs → k ≢ j → Holds μ.graph (part k) (part j) → Holds μ.graph (part k) (part i)
  parent_least i j k lj p lk n h =
      least μ.graph sound (part i) (part k) (part j) (row xs i).inside (row xs k).inside (proper i p.is_row) (proper k lk) (proper j lj) p.holds h
      (L.counts i p.is_row) (L.counts k lk) (p.smallest k lk n h)

-- two listings
module _ (μ : Meaning) (sound : Sound μ.graph) (xs ys : List Row) (L : Listing μ xs) (M : Listing μ ys) where
  -- a row's part stands in the other listing too
  there : (i : ℕ) → i < length xs → (j : ℕ) × (j < length ys) × ((row ys j).part ≡ (row xs i).part)
  there i l = pick (cases_eq i 0)
    where
      pick : (i ≡ 0) ⊎ (i ≡ 0 → ⊥) → (j : ℕ) × (j < length ys) × ((row ys j).part ≡ (row xs i).part)
      pick (inl e) = (0, M.some, M.top ∙ sym (ap (λ (k : ℕ). (row xs k).part) e ∙ L.top))
      pick (inr n) =
          let c = L.canonical i (omega arith) l in
          let j = M.listed c.0 c.1 c.3 in
          (j.0, j.1, j.2 ∙ sym c.2)

-- the parents of one part are one part
parents_agree :
    (μ : Meaning) (sound : Sound μ.graph) (xs ys : List Row) (L : Listing μ xs) (M : Listing μ ys) (i j u v : ℕ) → i < length xs → j < length ys →
    (row xs i).part ≡ (row ys j).part → Parent μ.graph xs u i → Parent μ.graph ys v j → (row xs u).part ≡ (row ys v).part
parents_agree μ sound xs ys L M i j u v li lj e p q =
    let g = μ.graph in
    let v' = there μ sound ys xs M L v q.is_row in
    let u' = there μ sound xs ys L M u p.is_row in
    let nv : v'.0 ≢ i = λ d. q.other (M.once v j q.is_row lj (sym v'.2 ∙ ap (λ (k : ℕ). (row xs k).part) d ∙ e)) in
    let nu : u'.0 ≢ j = λ d. p.other (L.once u i p.is_row li (sym u'.2 ∙ ap (λ (k : ℕ). (row ys k).part) d ∙ sym e)) in
    let hv : Holds g (row xs v'.0).part (row xs i).part = rw (v'.2, e) q.holds in
    let hu : Holds g (row ys u'.0).part (row ys j).part = rw (u'.2, ← e) p.holds in
    let a = parent_least μ sound xs L u i v'.0 li p v'.1 nv hv in
    let b = parent_least μ sound ys M v j u'.0 lj q u'.1 nu hu in
    let b' : Holds g (row xs u).part (row xs v'.0).part = rw v'.2 (rw u'.2 at b) in
    ap (λ (k : ℕ). (row xs k).part) (both μ sound xs L u v'.0 p.is_row v'.1 b' a) ∙ v'.2

-- the listings agree below k
abbrev Agree : List Row → List Row → ℕ → Type 0
Agree xs ys k = (i : ℕ) → i < k → (row xs i).part ≡ (row ys i).part

module _ (μ : Meaning) (sound : Sound μ.graph) (xs ys : List Row) (L : Listing μ xs) (M : Listing μ ys) (k : ℕ) (lx : k < length xs) (ly : k < length ys) (agree : Agree xs ys k) where
  -- where the part of row k of xs stands in ys, if not at k
  later : (row xs k).part ≢ (row ys k).part → (j : ℕ) × (k < j) × (j < length ys) × ((row ys j).part ≡ (row xs k).part)
  later n = pick (cases_order t.0 k)
    where
      t : (j : ℕ) × (j < length ys) × ((row ys j).part ≡ (row xs k).part)
      t = there μ sound xs ys L M k lx

      pick : (t.0 ≡ k) ⊎ ((t.0 < k) ⊎ (k < t.0)) → (j : ℕ) × (k < j) × (j < length ys) × ((row ys j).part ≡ (row xs k).part)
      pick (inl e) = absurd (n (sym t.2 ∙ ap (λ (x : ℕ). (row ys x).part) e))
      pick (inr (inl l)) = absurd (let e = L.once t.0 k (omega arith) lx (agree t.0 l ∙ t.2) in omega arith)
      pick (inr (inr l)) = (t.0, l, t.1, t.2)

  -- the parent of row k of xs is the parent of that row of ys, by number
  parent_there : (u j : ℕ) → j < length ys → 0 < j → (row ys j).part ≡ (row xs k).part → Parent μ.graph xs u k → u < k → (row ys j).parent ≡ Some u
  parent_there u j lj pos e p lu =
      let v = M.parents j pos lj in
      let s = parents_agree μ sound xs ys L M k j u v.0 lx lj (sym e) p v.2 in
      let q = M.once v.0 u v.2.is_row (omega arith) (sym s ∙ agree u lu) in
      v.1 ∙ ap (λ (x : ℕ). Some x) q

  -- the parent u of row k of xs, and u' of row k of ys, whose part stands later in xs: u' is not behind u
  not_behind :
      (u u' i : ℕ) → Parent μ.graph xs u k → u' < k → k < i → i < length xs → (row xs i).part ≡ (row ys k).part → Parent μ.graph ys u' k → u < u' → ⊥
  not_behind u u' i p lu lk li e q lt =
      let g = μ.graph in
      let h : Holds g (row xs u').part (row xs i).part =
      rw (agree u' lu, e) q.holds in
      let b = L.directly u' i k lu lk li (λ d. omega arith, h) in
      let c = parent_least μ sound xs L u k u' lx p (omega arith) b.0 b.1 in
      let l = L.after u' u (omega arith) p.is_row (λ d. omega arith, c) in
      omega arith

module _ (μ : Meaning) (sound : Sound μ.graph) (xs ys : List Row) (L : Listing μ xs) (M : Listing μ ys) where
  -- the next row is the same too
  step : (k : ℕ) → k < length xs → k < length ys → Agree xs ys k → (row xs k).part ≡ (row ys k).part
  step k lx ly agree = zero_or (cases_eq k 0)
    where
      egree : Agree ys xs k
      egree i l = sym (agree i l)

      clash : (a b c d : ℕ) → 0 < k → (row xs k).part ≡ fragment a b → (row ys k).part ≡ fragment c d → (row xs k).part ≢ (row ys k).part → ⊥
      clash a b c d pos ea eb n =
          let u = L.parents k pos lx in
          let w = M.parents k pos ly in
          let lu = L.after u.0 k u.2.is_row lx (u.2.other, u.2.holds) in
          let lw = M.after w.0 k w.2.is_row ly (w.2.other, w.2.holds) in
          let j = later μ sound xs ys L M k lx ly agree n in
          let i = later μ sound ys xs M L k ly lx egree (λ e. n (sym e)) in
          let pj = parent_there μ sound xs ys L M k lx ly agree u.0 j.0 j.2 (omega arith) j.3 u.2 lu in
          let pi = parent_there μ sound ys xs M L k ly lx egree w.0 i.0 i.2 (omega arith) i.3 w.2 lw in
          ends u w lu lw j i pj pi (cases_order u.0 w.0)
        where
          ends :
              (u : (u : ℕ) × ((row xs k).parent ≡ Some u) × Parent μ.graph xs u k) (w : (w : ℕ) × ((row ys k).parent ≡ Some w) × Parent μ.graph ys w k) →
              u.0 < k → w.0 < k → (j : (j : ℕ) × (k < j) × (j < length ys) × ((row ys j).part ≡ (row xs k).part)) (i : (i : ℕ) × (k < i) × (i < length xs) × ((row xs i).part ≡ (row ys k).part)) →
              (row ys j.0).parent ≡ Some u.0 → (row xs i.0).parent ≡ Some w.0 → (u.0 ≡ w.0) ⊎ ((u.0 < w.0) ⊎ (w.0 < u.0)) → ⊥
          ends u w lu lw j i pj pi (inl e) =
              let s = ap (λ (x : ℕ). Some x) e in
              let x = L.rising k i.0 a b c d i.1 i.2 (u.1 ∙ s ∙ sym pi) ea (i.3 ∙ eb) in
              let y = M.rising k j.0 c d a b j.1 j.2 (w.1 ∙ sym s ∙ sym pj) eb (j.3 ∙ ea) in
              omega arith
          ends u w lu lw j i pj pi (inr (inl l)) = not_behind μ sound xs ys L M k lx ly agree u.0 w.0 i.0 u.2 lw i.1 i.2 i.3 w.2 l
          ends u w lu lw j i pj pi (inr (inr l)) = not_behind μ sound ys xs M L k ly lx egree w.0 u.0 j.0 w.2 lu j.1 j.2 j.3 u.2 l

      by_links :
          (a b c d : ℕ) → 0 < k → (row xs k).part ≡ fragment a b → (row ys k).part ≡ fragment c d → (a ≡ c) ⊎ (a ≡ c → ⊥) → (b ≡ d) ⊎ (b ≡ d → ⊥) →
          (row xs k).part ≡ (row ys k).part
      by_links a b c d pos ea eb (inl e) (inl f) = cc
      by_links a b c d pos ea eb (inl e) (inr f) = absurd (clash a b c d pos ea eb (λ q. f (cc)))
      by_links a b c d pos ea eb (inr e) f = absurd (clash a b c d pos ea eb (λ q. e (cc)))

      zero_or : (k ≡ 0) ⊎ (k ≡ 0 → ⊥) → (row xs k).part ≡ (row ys k).part
      zero_or (inl e) = ap (λ (x : ℕ). (row xs x).part) e ∙ L.top ∙ sym M.top ∙ sym (ap (λ (x : ℕ). (row ys x).part) e)
      zero_or (inr n) =
          let c = L.canonical k (omega arith) lx in
          let d = M.canonical k (omega arith) ly in
          by_links c.0 c.1 d.0 d.1 (omega arith) c.2 d.2 (cases_eq c.0 d.0) (cases_eq c.1 d.1)

  agree_to : (k : ℕ) → k ≤ length xs → k ≤ length ys → Agree xs ys k
  agree_to zero lx ly i l = absurd (omega arith)
  agree_to (suc k) lx ly i l = pick (agree_to k (omega arith) (omega arith)) (cases_eq i k)
    where
      pick : Agree xs ys k → (i ≡ k) ⊎ (i ≡ k → ⊥) → (row xs i).part ≡ (row ys i).part
      pick h (inl e) = rw e (step k lx ly h)
      pick h (inr n) = h i (omega arith)

  not_longer : length xs < length ys → ⊥
  not_longer l =
      let t = there μ sound ys xs M L (length xs) l in
      let a = agree_to (length xs) (omega arith) (omega arith) t.0 t.1 in
      let e = M.once t.0 (length xs) (omega (arith, t.1)) l (sym a ∙ t.2) in
      omega (arith, t.1)

row_is : (x y : Row) → x.part ≡ y.part → x.parent ≡ y.parent → x.kind ≡ y.kind → x.inside ≡ y.inside → x ≡ y
row_is x y a b c d = λ i. record { part = a i; parent = b i; kind = c i; inside = d i }

pub unique : (μ : Meaning) → Sound μ.graph → (xs ys : List Row) → Listing μ xs → Listing μ ys → xs ≡ ys
unique μ sound xs ys L M = ext_get_or (row [] 0) xs ys same (λ i l. at i l (omega (arith, same)))
  where
    same : length xs ≡ length ys
    same =
        let a = not_longer μ sound xs ys L M in
        let b = not_longer μ sound ys xs M L in
        omega arith

    parts : (i : ℕ) → i < length xs → (row xs i).part ≡ (row ys i).part
    parts i l = agree_to μ sound xs ys L M (length xs) (omega arith) (omega (arith, same)) i l

    parent : (i : ℕ) → i < length xs → i < length ys → (i ≡ 0) ⊎ (i ≡ 0 → ⊥) → (row xs i).parent ≡ (row ys i).parent
    parent i lx ly (inl e) = rw e (L.rootless ∙ sym M.rootless)
    parent i lx ly (inr n) =
        let u = L.parents i (omega arith) lx in
        let v = M.parents i (omega arith) ly in
        let lu = u.2.is_row in
        let s = parents_agree μ sound xs ys L M i i u.0 v.0 lx ly (parts i lx) u.2 v.2 in
        let q = M.once v.0 u.0 v.2.is_row (omega (arith, same)) (sym s ∙ parts u.0 lu) in
        u.1 ∙ ap (λ (x : ℕ). Some x) (sym q) ∙ sym v.1

    at : (i : ℕ) → i < length xs → i < length ys → row xs i ≡ row ys i
    at i lx ly =
        let g = μ.graph in
        let p = (row xs i).part in
        let e = parts i lx in
        let kx = L.kinds i lx in
        let ky : KindOf μ p (row ys i).kind = rw e (M.kinds i ly) in
        let cx = L.counts i lx in
        let cy : Counted g p (row ys i).inside = rw e (M.counts i ly) in
        let a = exactly_le g.steps (row xs i).inside (row ys i).inside (In g p) (In g p) cx cy (λ s _ h. h) in
        let b = exactly_le g.steps (row ys i).inside (row xs i).inside (In g p) (In g p) cy cx (λ s _ h. h) in
        row_is (row xs i) (row ys i) e (parent i lx ly (cases_eq i 0)) (one_kind μ p (row xs i).kind (row ys i).kind kx ky) (omega arith)
