-- A listing of a plan that is written out, by computing.
use Rattle.std.proofs.Common.{◌≡◌, ℕ, ◌<◌, Bool, true, false, not, ◌&&◌, ◌||◌, eqb, ltb, leb, List, length, sym, refl, ap, ◌∙◌, subst, arith, Decides}
use Rattle.std.proofs.lemmas.Bool.Decides.{Decides-and, Decides-or, Decides-not, Decides-eqb, nat_tests}
use Rattle.std.proofs.lemmas.Bool.{both_ways, and_parts, and_from, not-true, not_from_false, eqb-true, eq-eqb, ltb-true, lt-ltb, false≢true, false_from_ne_true}
use Rattle.model.specs.Meaning.{Graph, Meaning, tail_of, head_of}
use Rattle.model.specs.Walks.{Canonical, Sound}
use Rattle.model.specs.Parts.{Part, whole, fragment, In, Proper, how_many, Fewer, Own}
use Rattle.model.specs.Kinds.{ins, outs, Branches, Opens, Closes, logic_at, OwnStep, entry_head, exit_tail, Only, Mesh, Fits, KindOf}
use Rattle.model.specs.Words.{kind_number}
use Rattle.model.specs.Listing.{Row, row}
use Rattle.model.specs.declared.kinds.Kind.{Kind}
use Rattle.model.specs.declared.kinds.Kind.TheVariants.{Whole, Single, Choice, Parallel, Loop, MeshOne, MeshAll, Mixed}
use Rattle.model.specs.declared.numbers.Logic.{Logic}
use Rattle.model.specs.declared.numbers.Logic.TheVariants.{One, All}
use Rattle.theory.specs.Tests.{reach, each_below}
use Rattle.theory.proofs.Reach.{reach_walk}
use Rattle.theory.proofs.Insides.{step}
use Rattle.theory.proofs.Unique.{kind_at, kind_back}
use Rattle.theory.proofs.Tells.{t_and3, t_imp, t_le, each_at, each_from, t_each}
use Rattle.theory.proofs.Parts.{inb, size, t_in, t_exactly, t_size}

-- soundness
unfoldable pub soundb : Graph → Bool
soundb g =
    (ltb g.first g.steps && ltb g.last g.steps) &&
    (each_below (λ k. (ltb (tail_of g.links k) g.steps && ltb (head_of g.links k) g.steps) && (not (eqb (head_of g.links k) g.first) && not (eqb (tail_of g.links k) g.last))) (length g.links) &&
    each_below (λ s. reach g.links g.steps (length g.links) g.first s && reach g.links g.steps (length g.links) s g.last) g.steps)

pub sound_by : (g : Graph) → soundb g ≡ true → Sound g
unfolding soundb
sound_by g e =
    let p = and_parts _ _ e in
    let ends = and_parts _ _ p.0 in
    let rest = and_parts _ _ p.1 in
    record {
      begins = ltb-true g.first g.steps ends.0;
      ends = ltb-true g.last g.steps ends.1;
      within = λ k l. let t = each_at linkb (length g.links) rest.0 k l in grind (arith, nat_tests);
      none_in = λ k l. let t = each_at linkb (length g.links) rest.0 k l in grind (arith, nat_tests);
      none_out = λ k l. let t = each_at linkb (length g.links) rest.0 k l in grind (arith, nat_tests);
      between = λ s l.
          let q = and_parts _ _ (each_at stepb g.steps rest.1 s l) in
          let x = reach_walk g.links (length g.links) g.steps g.first s q.0 in
          let y = reach_walk g.links (length g.links) g.steps s g.last q.1 in
          ∣ (x.0, y.0, x.1, y.1) ∣₁;
    }
  where
    linkb : ℕ → Bool
    linkb k =
        (ltb (tail_of g.links k) g.steps && ltb (head_of g.links k) g.steps) && (not (eqb (head_of g.links k) g.first) && not (eqb (tail_of g.links k) g.last))

    stepb : ℕ → Bool
    stepb s = reach g.links g.steps (length g.links) g.first s && reach g.links g.steps (length g.links) s g.last

-- parts and logics that are the same
unfoldable pub same : Part → Part → Bool
same whole whole = true
same whole (fragment c d) = false
same (fragment a b) whole = false
same (fragment a b) (fragment c d) = eqb a c && eqb b d

pub same_is : (p q : Part) → same p q ≡ true → p ≡ q
unfolding same
same_is p q e = grind (arith, nat_tests)

pub is_same : (p q : Part) → p ≡ q → same p q ≡ true
unfolding same
is_same p q e = subst (λ (x : Part). same p x ≡ true) e (self p)
  where
    self : (p : Part) → same p p ≡ true
    self whole = refl
    self (fragment a b) = and_from (eqb a a) (eqb b b) (eq-eqb a a refl) (eq-eqb b b refl)

unfoldable pub logicb : Logic → Logic → Bool
logicb One One = true
logicb One All = false
logicb All One = false
logicb All All = true

t_logic : (x y : Logic) → Decides (logicb x y) (x ≡ y)
unfolding logicb
t_logic x y = grind arith

-- kinds
unfoldable pub branchb : Graph → ℕ → Bool
branchb g s = leb 2 (ins g s) || leb 2 (outs g s)

t_branch : (g : Graph) (s : ℕ) → Decides (branchb g s) (Branches g s)
unfolding branchb
t_branch g s = Decides-or (leb 2 (ins g s)) (leb 2 (outs g s)) (t_le 2 (ins g s)) (t_le 2 (outs g s))

unfoldable pub opensb : Graph → ℕ → Bool
opensb g s = eqb (ins g s) 1 && leb 2 (outs g s)

t_opens : (g : Graph) (s : ℕ) → Decides (opensb g s) (Opens g s)
unfolding opensb
t_opens g s = Decides-and (eqb (ins g s) 1) (leb 2 (outs g s)) (Decides-eqb (ins g s) 1) (t_le 2 (outs g s))

unfoldable pub closesb : Graph → ℕ → Bool
closesb g s = leb 2 (ins g s) && eqb (outs g s) 1

t_closes : (g : Graph) (s : ℕ) → Decides (closesb g s) (Closes g s)
unfolding closesb
t_closes g s = Decides-and (leb 2 (ins g s)) (eqb (outs g s) 1) (t_le 2 (ins g s)) (Decides-eqb (outs g s) 1)

-- the step is inside q, which is a fragment with fewer steps than p
unfoldable pub takenb : Graph → Part → ℕ → Part → Bool
takenb g p s whole = false
takenb g p s (fragment c d) = ltb (size g (fragment c d)) (size g p) && inb g (fragment c d) s

unfoldable pub ownb : Graph → List Row → Part → ℕ → Bool
ownb g rows p s = inb g p s && each_below (λ j. not (takenb g p s (row rows j).part)) (length rows)

-- the rows are the whole plan and the canonical fragments
pub record Covers (g : Graph) (rows : List Row) : Type 0 where
  pub proper : (i : ℕ) → i < length rows → Proper g (row rows i).part
  pub listed : (a b : ℕ) → Canonical g a b → (i : ℕ) × (i < length rows) × ((row rows i).part ≡ fragment a b)

module _ (g : Graph) (sound : Sound g) (rows : List Row) (covers : Covers g rows) where
  pub t_own : (p : Part) → Proper g p → (s : ℕ) → Decides (ownb g rows p s) (Own g p s)
  unfolding ownb takenb
  t_own p c s = (there, back)
    where
      f : ℕ → Bool
      f j = not (takenb g p s (row rows j).part)

      there : (inb g p s && each_below f (length rows)) ≡ true → Own g p s
      there e =
          let h = and_parts (inb g p s) (each_below f (length rows)) e in
          record { inside = (t_in g sound p c s).0 h.0; innermost = λ x y k fewer i. none x y k fewer i h.1 }
        where
          none : (x y : ℕ) → Canonical g x y → Fewer g (fragment x y) p → In g (fragment x y) s → each_below f (length rows) ≡ true → ⊥
          none x y k fewer i h =
              let at = covers.listed x y k in
              let no_t : not (takenb g p s (fragment x y)) ≡ true = subst (λ (q : Part). not (takenb g p s q) ≡ true) at.2 (each_at f (length rows) h at.0 at.1) in
              let e1 = eqb-true (size g (fragment x y)) fewer.0 ((t_size g sound (fragment x y) k fewer.0).1 fewer.2) in
              let e2 = eqb-true (size g p) fewer.1 ((t_size g sound p c fewer.1).1 fewer.3) in
              both_ways (takenb g p s (fragment x y)) (not-true (takenb g p s (fragment x y)) no_t)
              (and_from (ltb (size g (fragment x y)) (size g p)) (inb g (fragment x y) s) (lt-ltb (size g (fragment x y)) (size g p) (let lt = fewer.4 in omega arith)) ((t_in g sound (fragment x y) k s).1 i))

      clear : Own g p s → (q : Part) → Proper g q → takenb g p s q ≡ true → ⊥
      clear o whole k e = false≢true e
      clear o (fragment x y) k e =
          let h = and_parts (ltb (size g (fragment x y)) (size g p)) (inb g (fragment x y) s) e in
          let a = (t_size g sound (fragment x y) k (size g (fragment x y))).0 (eq-eqb (size g (fragment x y)) (size g (fragment x y)) refl) in
          let b = (t_size g sound p c (size g p)).0 (eq-eqb (size g p) (size g p) refl) in
          o.innermost x y k (size g (fragment x y), size g p, a, b, ltb-true (size g (fragment x y)) (size g p) h.0) ((t_in g sound (fragment x y) k s).0 h.1)

      back : Own g p s → (inb g p s && each_below f (length rows)) ≡ true
      back o =
          and_from (inb g p s) (each_below f (length rows)) ((t_in g sound p c s).1 o.inside)
          (each_from f (length rows)
          (λ j l. not_from_false (takenb g p s (row rows j).part) (false_from_ne_true (takenb g p s (row rows j).part) (clear o (row rows j).part (covers.proper j l)))))

-- the condition of each kind
unfoldable pub onlyb : Meaning → List Row → ℕ → ℕ → ℕ → Logic → Bool
onlyb μ rows a b k l =
    eqb (how_many (ownb μ.graph rows (fragment a b)) μ.graph.steps) k && each_below (λ s. not (ownb μ.graph rows (fragment a b) s) || logicb (logic_at μ s) l) μ.graph.steps

unfoldable pub meshb : Meaning → List Row → ℕ → ℕ → Logic → Bool
meshb μ rows a b l = each_below (λ s. not (ownb μ.graph rows (fragment a b) s) || (not (branchb μ.graph s) || logicb (logic_at μ s) l)) μ.graph.steps

unfoldable pub fitsb : Meaning → List Row → ℕ → ℕ → Kind → Bool
fitsb μ rows a b Whole = false
fitsb μ rows a b Single = each_below (λ s. not (ownb μ.graph rows (fragment a b) s) || not (branchb μ.graph s)) μ.graph.steps
fitsb μ rows a b Choice = onlyb μ rows a b 2 One && (opensb μ.graph (entry_head μ a b) && closesb μ.graph (exit_tail μ a b))
fitsb μ rows a b Parallel = onlyb μ rows a b 2 All && (opensb μ.graph (entry_head μ a b) && closesb μ.graph (exit_tail μ a b))
fitsb μ rows a b Loop =
    (onlyb μ rows a b 2 One && (closesb μ.graph (entry_head μ a b) && opensb μ.graph (exit_tail μ a b))) ||
    (onlyb μ rows a b 1 One && each_below (λ s. not (ownb μ.graph rows (fragment a b) s) || branchb μ.graph s) μ.graph.steps)
fitsb μ rows a b MeshOne = meshb μ rows a b One
fitsb μ rows a b MeshAll = meshb μ rows a b All
fitsb μ rows a b Mixed = true

module _ (μ : Meaning) (sound : Sound μ.graph) (rows : List Row) (covers : Covers μ.graph rows) (a b : ℕ) (c : Canonical μ.graph a b) where
  t_mine : (s : ℕ) → Decides (ownb μ.graph rows (fragment a b) s) (OwnStep μ a b s)
  t_mine s = t_own μ.graph sound rows covers (fragment a b) c s

  bound : (s : ℕ) → OwnStep μ a b s → s < μ.graph.steps
  bound s o = step μ.graph sound (fragment a b) c s o.inside

  -- of all own steps
  t_mines :
      (f : ℕ → Bool) (Q : ℕ → Type 0) → ((s : ℕ) → Decides (f s) (Q s)) →
      Decides (each_below (λ s. not (ownb μ.graph rows (fragment a b) s) || f s) μ.graph.steps) ((s : ℕ) → OwnStep μ a b s → Q s)
  t_mines f Q t =
      t_each (λ s. not (ownb μ.graph rows (fragment a b) s) || f s) μ.graph.steps (OwnStep μ a b) Q bound (λ s l. t_imp (ownb μ.graph rows (fragment a b) s) (f s) (OwnStep μ a b s) (Q s) (t_mine s) (t s))

  t_only : (k : ℕ) (l : Logic) → Decides (onlyb μ rows a b k l) (Only μ a b k l)
  unfolding onlyb
  t_only k l =
      Decides-and
      (eqb (how_many (ownb μ.graph rows (fragment a b)) μ.graph.steps) k) (each_below (λ s. not (ownb μ.graph rows (fragment a b) s) || logicb (logic_at μ s) l) μ.graph.steps)
      (t_exactly (ownb μ.graph rows (fragment a b)) μ.graph.steps k (OwnStep μ a b) (λ s _. t_mine s))
      (t_mines (λ s. logicb (logic_at μ s) l) (λ s. logic_at μ s ≡ l) (λ s. t_logic (logic_at μ s) l))

  t_mesh : (l : Logic) → Decides (meshb μ rows a b l) (Mesh μ a b l)
  unfolding meshb
  t_mesh l =
      t_mines (λ s. not (branchb μ.graph s) || logicb (logic_at μ s) l) (λ s. Branches μ.graph s → logic_at μ s ≡ l)
      (λ s. t_imp (branchb μ.graph s) (logicb (logic_at μ s) l) (Branches μ.graph s) (logic_at μ s ≡ l) (t_branch μ.graph s) (t_logic (logic_at μ s) l))

  fork :
      (l : Logic) →
      Decides (onlyb μ rows a b 2 l && (opensb μ.graph (entry_head μ a b) && closesb μ.graph (exit_tail μ a b))) (Only μ a b 2 l × Opens μ.graph (entry_head μ a b) × Closes μ.graph (exit_tail μ a b))
  fork l =
      t_and3 (onlyb μ rows a b 2 l) (opensb μ.graph (entry_head μ a b)) (closesb μ.graph (exit_tail μ a b)) (Only μ a b 2 l) (Opens μ.graph (entry_head μ a b)) (Closes μ.graph (exit_tail μ a b))
      (t_only 2 l) (t_opens μ.graph (entry_head μ a b)) (t_closes μ.graph (exit_tail μ a b))

  pub t_fits : (k : Kind) → Decides (fitsb μ rows a b k) (Fits μ a b k)
  unfolding fitsb
  t_fits Whole = (λ e. false≢true e, λ e. absurd e)
  t_fits Single = t_mines (λ s. not (branchb μ.graph s)) (λ s. Branches μ.graph s → ⊥) (λ s. Decides-not (branchb μ.graph s) (t_branch μ.graph s))
  t_fits Choice = fork One
  t_fits Parallel = fork All
  t_fits Loop =
      Decides-or
      (onlyb μ rows a b 2 One && (closesb μ.graph (entry_head μ a b) && opensb μ.graph (exit_tail μ a b)))
      (onlyb μ rows a b 1 One && each_below (λ s. not (ownb μ.graph rows (fragment a b) s) || branchb μ.graph s) μ.graph.steps)
      (t_and3 (onlyb μ rows a b 2 One) (closesb μ.graph (entry_head μ a b)) (opensb μ.graph (exit_tail μ a b)) (Only μ a b 2 One) (Closes μ.graph (entry_head μ a b)) (Opens μ.graph (exit_tail μ a b))
      (t_only 2 One) (t_closes μ.graph (entry_head μ a b)) (t_opens μ.graph (exit_tail μ a b)))
      (Decides-and
      (onlyb μ rows a b 1 One) (each_below (λ s. not (ownb μ.graph rows (fragment a b) s) || branchb μ.graph s) μ.graph.steps) (t_only 1 One) (t_mines (branchb μ.graph) (Branches μ.graph) (t_branch μ.graph)))
  t_fits MeshOne = t_mesh One
  t_fits MeshAll = t_mesh All
  t_fits Mixed = (λ e. tt, λ e. refl)

unfoldable pub kindb : Meaning → List Row → Part → Kind → Bool
kindb μ rows whole k = eqb (kind_number k) 0
kindb μ rows (fragment a b) k = fitsb μ rows a b k && each_below (λ j. not (fitsb μ rows a b (kind_at j))) (kind_number k)

pub kind_by :
    (μ : Meaning) → Sound μ.graph → (rows : List Row) → Covers μ.graph rows → (p : Part) → Proper μ.graph p → (k : Kind) → kindb μ rows p k ≡ true →
    KindOf μ p k
unfolding kindb kind_at
kind_by μ sound rows covers whole c k e = sym (kind_back k) ∙ ap kind_at (eqb-true (kind_number k) 0 e)
kind_by μ sound rows covers (fragment a b) c k e =
    let h = and_parts (fitsb μ rows a b k) (each_below (λ j. not (fitsb μ rows a b (kind_at j))) (kind_number k)) e in (
      (t_fits μ sound rows covers a b c k).0 h.0,
      λ j l f.
          let x = each_at (λ j. not (fitsb μ rows a b (kind_at j))) (kind_number k) h.1 (kind_number j) l in
          let y : not (fitsb μ rows a b j) ≡ true = subst (λ (i : Kind). not (fitsb μ rows a b i) ≡ true) (kind_back j) x in
          both_ways (fitsb μ rows a b j) (not-true (fitsb μ rows a b j) y) ((t_fits μ sound rows covers a b c j).1 f),
    )
