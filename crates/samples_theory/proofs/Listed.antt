-- A list of rows that passes these tests is the listing.
use Rattle.std.proofs.Common.{◌≡◌, ℕ, suc, ◌<◌, Bool, true, false, cond, not, ◌&&◌, ◌||◌, eqb, ltb, leb, ◌≢◌, ◌⊎◌, List, [], ◌∷◌, length, Some, None, Option, sym, refl, ap, ◌∙◌, subst, inl, inr, arith}
use Rattle.std.proofs.lemmas.Bool.Decides.{nat_tests}
use Rattle.std.proofs.lemmas.Bool.{cases_eq, and_parts, not-true, eqb-true, eq-eqb, eqb-false, ltb-true, leb-true, false≢true}
use Rattle.model.specs.Meaning.{Graph, Meaning}
use Rattle.model.specs.Walks.{Canonical, Sound}
use Rattle.model.specs.Parts.{Part, whole, fragment, Proper, Holds}
use Rattle.model.specs.Listing.{Row, row, Parent, Listing}
use Rattle.theory.specs.Tests.{each_below}
use Rattle.theory.proofs.Tells.{each_at}
use Rattle.theory.proofs.Parts.{canonicalb, holdsb, size, t_canonical, t_holds, t_size}
use Rattle.samples_theory.proofs.Checks.{same, same_is, is_same, Covers, kindb, kind_by}

unfoldable pub is_none : Option ℕ → Bool
is_none None = true
is_none (Some i) = false

unfoldable pub properb : Graph → Part → Bool
properb g whole = false
properb g (fragment a b) = canonicalb g a b

-- the place of a part
unfoldable pub place_of : List Row → Part → ℕ
place_of [] p = 0
place_of (x ∷ xs) p = cond (same x.part p) 0 (suc (place_of xs p))

unfoldable pub listedb : Graph → List Row → ℕ → ℕ → Bool
listedb g rows a b = not (canonicalb g a b) || (ltb (place_of rows (fragment a b)) (length rows) && same (row rows (place_of rows (fragment a b))).part (fragment a b))

unfoldable pub hold : Graph → List Row → ℕ → ℕ → Bool
hold g rows i j = holdsb g (row rows i).part (row rows j).part

unfoldable pub parentb : Graph → List Row → Option ℕ → ℕ → Bool
parentb g rows None j = false
parentb g rows (Some i) j =
    (ltb i (length rows) && not (eqb i j)) && (hold g rows i j && each_below (λ k. eqb k j || (not (hold g rows k j) || leb (row rows i).inside (row rows k).inside)) (length rows))

unfoldable pub same_parent : Option ℕ → Option ℕ → Bool
same_parent None None = true
same_parent None (Some j) = false
same_parent (Some i) None = false
same_parent (Some i) (Some j) = eqb i j

unfoldable pub risesb : Part → Part → Bool
risesb whole q = true
risesb (fragment a b) whole = true
risesb (fragment a b) (fragment c d) = ltb a c

unfoldable pub listingb : Meaning → List Row → Bool
listingb μ rows =
    (ltb 0 (length rows) && (same (row rows 0).part whole && is_none (row rows 0).parent)) &&
    (each_below (λ i. eqb i 0 || properb μ.graph (row rows i).part) (length rows) &&
    (each_below (λ a. each_below (λ b. listedb μ.graph rows a b) (length μ.graph.links)) (length μ.graph.links) &&
    (each_below (λ i. each_below (λ j. not (same (row rows i).part (row rows j).part) || eqb i j) (length rows)) (length rows) &&
    (each_below (λ j. eqb j 0 || parentb μ.graph rows (row rows j).parent j) (length rows) &&
    (each_below (λ i. eqb (size μ.graph (row rows i).part) (row rows i).inside && kindb μ rows (row rows i).part (row rows i).kind) (length rows) &&
    (each_below (λ i. each_below (λ j. eqb i j || (not (hold μ.graph rows i j) || ltb i j)) (length rows)) (length rows) &&
    (each_below (λ j. each_below (λ k. each_below (λ i. not (hold μ.graph rows i j) || hold μ.graph rows i k) k) j) (length rows) &&
    each_below (λ j. each_below (λ i. not (same_parent (row rows i).parent (row rows j).parent) || risesb (row rows i).part (row rows j).part) j) (length rows))))))))

none_is : (o : Option ℕ) → is_none o ≡ true → o ≡ None
unfolding is_none
none_is o e = grind arith

is_parent : (o q : Option ℕ) → o ≡ q → same_parent o q ≡ true
unfolding same_parent
is_parent o q e = subst (λ (x : Option ℕ). same_parent o x ≡ true) e (self o)
  where
    self : (o : Option ℕ) → same_parent o o ≡ true
    self None = refl
    self (Some i) = eq-eqb i i refl

imp : (b c : Bool) → (not b || c) ≡ true → b ≡ true → c ≡ true
imp b c e t = grind arith

unless : (i j : ℕ) (c : Bool) → (eqb i j || c) ≡ true → i ≢ j → c ≡ true
unless i j c e n = grind (arith, nat_tests)

-- a test of pairs, where the first may bound the second
each_at2 : (f : ℕ → ℕ → Bool) (n : ℕ) (m : ℕ → ℕ) → each_below (λ i. each_below (f i) (m i)) n ≡ true → (i j : ℕ) → i < n → j < m i → f i j ≡ true
each_at2 f n m e i j li lj = each_at (f i) (m i) (each_at (λ i. each_below (f i) (m i)) n e i li) j lj

nine :
    (a b c d e f g h i : Bool) → (a && (b && (c && (d && (e && (f && (g && (h && i)))))))) ≡ true →
    (a ≡ true) × (b ≡ true) × (c ≡ true) × (d ≡ true) × (e ≡ true) × (f ≡ true) × (g ≡ true) × (h ≡ true) × (i ≡ true)
nine a b c d e f g h i t = grind arith

module _ (μ : Meaning) (sound : Sound μ.graph) (rows : List Row) where
  abbrev g : Graph
  g = μ.graph

  abbrev n : ℕ
  n = length rows

  abbrev part : ℕ → Part
  part i = (row rows i).part

  is_canonical : (p : Part) → properb g p ≡ true → (a : ℕ) × (b : ℕ) × (p ≡ fragment a b) × Canonical g a b
  unfolding properb
  is_canonical whole e = absurd (false≢true e)
  is_canonical (fragment a b) e = (a, b, refl, (t_canonical g sound a b).0 e)

  is_listed : (a b : ℕ) → Canonical g a b → listedb g rows a b ≡ true → (i : ℕ) × (i < n) × (part i ≡ fragment a b)
  unfolding listedb
  is_listed a b c e =
      let i = place_of rows (fragment a b) in
      let h = and_parts (ltb i n) (same (part i) (fragment a b)) (imp (canonicalb g a b) (ltb i n && same (part i) (fragment a b)) e ((t_canonical g sound a b).1 c)) in
      (i, ltb-true i n h.0, same_is (part i) (fragment a b) h.1)

  rises : (p q : Part) → risesb p q ≡ true → (a b c d : ℕ) → p ≡ fragment a b → q ≡ fragment c d → a < c
  unfolding risesb
  rises p q e a b c d x y = grind (arith, nat_tests)

  module _ (covers : Covers g rows) where
    holds : (i j : ℕ) → i < n → j < n → hold g rows i j ≡ true → Holds g (part i) (part j)
    unfolding hold
    holds i j li lj e = (t_holds g sound (part i) (part j) (covers.proper i li) (covers.proper j lj)).0 e

    held : (i j : ℕ) → i < n → j < n → Holds g (part i) (part j) → hold g rows i j ≡ true
    unfolding hold
    held i j li lj h = (t_holds g sound (part i) (part j) (covers.proper i li) (covers.proper j lj)).1 h

    is_parent_of : (o : Option ℕ) (j : ℕ) → j < n → parentb g rows o j ≡ true → (i : ℕ) × (o ≡ Some i) × Parent g rows i j
    unfolding parentb
    is_parent_of None j l e = absurd (false≢true e)
    is_parent_of (Some i) j l e =
        let f : ℕ → Bool = λ k. eqb k j || (not (hold g rows k j) || leb (row rows i).inside (row rows k).inside) in
        let h = and_parts (ltb i n && not (eqb i j)) (hold g rows i j && each_below f n) e in
        let x = and_parts (ltb i n) (not (eqb i j)) h.0 in
        let y = and_parts (hold g rows i j) (each_below f n) h.1 in
        let li = ltb-true i n x.0 in (
          i,
          refl,
          record {
            is_row = li;
            other = eqb-false i j (not-true (eqb i j) x.1);
            holds = holds i j li l y.0;
            smallest = λ k lk d hk.
                leb-true (row rows i).inside (row rows k).inside
                (imp (hold g rows k j) (leb (row rows i).inside (row rows k).inside)
                (unless k j (not (hold g rows k j) || leb (row rows i).inside (row rows k).inside) (each_at f n y.1 k lk) d) (held k j lk l hk));
          },
        )

  pub listing_by : listingb μ rows ≡ true → Listing μ rows
  unfolding listingb
  listing_by e =
      let t = nine _ _ _ _ _ _ _ _ _ e in
      let first = and_parts _ _ t.0 in
      let whole_first = and_parts _ _ first.1 in
      let proper' = proper whole_first.0 t.1 in
      let covers : Covers g rows = record { proper = proper'; listed = listed t.2 } in
      record {
        some = ltb-true 0 n first.0;
        top = same_is (part 0) whole whole_first.0;
        rootless = none_is (row rows 0).parent whole_first.1;
        canonical = canonical t.1;
        listed = listed t.2;
        once = λ i j li lj q. eqb-true i j (imp (same (part i) (part j)) (eqb i j) (each_at2 f4 n (λ _. n) t.3 i j li lj) (is_same (part i) (part j) q));
        parents = λ j pos l.
            is_parent_of covers (row rows j).parent j l (unless j 0 (parentb g rows (row rows j).parent j) (each_at f5 n t.4 j l) (λ q. omega arith));
        counts = λ i l. (t_size g sound (part i) (proper' i l) (row rows i).inside).0 (and_parts _ _ (each_at f6 n t.5 i l)).0;
        kinds = λ i l. kind_by μ sound rows covers (part i) (proper' i l) (row rows i).kind (and_parts _ _ (each_at f6 n t.5 i l)).1;
        after = λ i j li lj b.
            ltb-true i j (imp (hold g rows i j) (ltb i j) (unless i j (not (hold g rows i j) || ltb i j) (each_at2 f7 n (λ _. n) t.6 i j li lj) b.0)
            (held covers i j li lj b.1));
        directly = λ i j k lk lj l b. (
          λ q. omega arith,
          holds covers i k (omega arith) (omega arith)
              (imp (hold g rows i j) (hold g rows i k)
              (each_at (λ i. f8 i j k) k (each_at2 (λ j k. each_below (λ i. f8 i j k) k) n (λ j. j) t.7 j k l lj) i lk) (held covers i j (omega arith) l b.1)),
        );
        rising = λ i j a b c d lt l q x y.
            rises (part i) (part j)
            (imp (same_parent (row rows i).parent (row rows j).parent) (risesb (part i) (part j)) (each_at2 (λ j i. f9 i j) n (λ j. j) t.8 j i l lt)
            (is_parent (row rows i).parent (row rows j).parent q))
            a b c d x y;
      }
    where
      m : ℕ
      m = length g.links

      f2 : ℕ → Bool
      f2 i = eqb i 0 || properb g (part i)

      f3 : ℕ → ℕ → Bool
      f3 a b = listedb g rows a b

      f4 : ℕ → ℕ → Bool
      f4 i j = not (same (part i) (part j)) || eqb i j

      f5 : ℕ → Bool
      f5 j = eqb j 0 || parentb g rows (row rows j).parent j

      f6 : ℕ → Bool
      f6 i = eqb (size g (part i)) (row rows i).inside && kindb μ rows (part i) (row rows i).kind

      f7 : ℕ → ℕ → Bool
      f7 i j = eqb i j || (not (hold g rows i j) || ltb i j)

      f8 : ℕ → ℕ → ℕ → Bool
      f8 i j k = not (hold g rows i j) || hold g rows i k

      f9 : ℕ → ℕ → Bool
      f9 i j = not (same_parent (row rows i).parent (row rows j).parent) || risesb (part i) (part j)

      canonical : each_below f2 n ≡ true → (i : ℕ) → 0 < i → i < n → (a : ℕ) × (b : ℕ) × (part i ≡ fragment a b) × Canonical g a b
      canonical t i pos l = is_canonical (part i) (unless i 0 (properb g (part i)) (each_at f2 n t i l) (λ q. omega arith))

      listed : each_below (λ a. each_below (f3 a) m) m ≡ true → (a b : ℕ) → Canonical g a b → (i : ℕ) × (i < n) × (part i ≡ fragment a b)
      listed t a b c = is_listed a b c (each_at2 f3 m (λ _. m) t a b c.pair.leads.1 c.pair.leads.2)

      proper : same (part 0) whole ≡ true → each_below f2 n ≡ true → (i : ℕ) → i < n → Proper g (part i)
      proper top t i l = pick (cases_eq i 0)
        where
          pick : (i ≡ 0) ⊎ (i ≡ 0 → ⊥) → Proper g (part i)
          pick (inl q) = subst (Proper g) (sym (ap part q ∙ same_is (part 0) whole top)) tt
          pick (inr d) = let c = canonical t i (omega arith) l in subst (Proper g) (sym c.2) c.3
