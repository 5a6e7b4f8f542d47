-- A view that passes these tests is opened over its plan.
use Rattle.std.proofs.Common.{◌≡◌, ℕ, zero, suc, ◌+◌, ◌<◌, ◌≤◌, Bool, true, false, not, ◌&&◌, ◌||◌, ltb, leb, ◌↔◌, List, length, get_or, Some, None, sym, refl, ◌∙◌, inl, inr, arith, lit<, lit≤, Decides}
use Rattle.std.proofs.lemmas.Option.{none-some}
use Rattle.std.proofs.lemmas.Bool.Decides.{Decides-and, Decides-ltb}
use Rattle.std.proofs.lemmas.Bool.{and_parts, ltb-true, leb-true}
use Rattle.model.specs.Meaning.{Graph, Meaning}
use Rattle.model.specs.Walks.{Sound}
use Rattle.model.specs.Parts.{In, Proper, Holds}
use Rattle.model.specs.Listing.{Row, row, Listing, Innermost}
use Rattle.model.specs.History.{ok, refused}
use Rattle.theory.specs.Tests.{relax, sweep, rounds, reached, reach, each_below}
use Rattle.theory.specs.Calls.{View, at_place, marked, mark, InRun, Meets, Run, opened, nexts, restarts, finds, takes, gives, rejects, Opened}
use Rattle.theory.proofs.Unique.{proper}
use Rattle.theory.proofs.Tells.{t_imp, t_le, each_at}
use Rattle.theory.proofs.Parts.{inb, holdsb, t_in, t_holds}
use Rattle.samples_theory.specs.Samples.{plan5, rows5, book5, row5, history5, BookHappens}
use Rattle.samples_theory.proofs.Sampled.{five}

unfoldable agreeb : Bool → Bool → Bool
agreeb true c = c
agreeb false c = not c

agree : (b c : Bool) → agreeb b c ≡ true → b ≡ c
unfolding agreeb
agree b c e = grind arith

unfoldable runb : View → ℕ → ℕ → Bool
runb v i j = leb i j && ltb j (i + get_or v.runs i 0)

t_run : (v : View) (i j : ℕ) → Decides (runb v i j) (InRun v i j)
unfolding runb
t_run v i j = Decides-and (leb i j) (ltb j (i + get_or v.runs i 0)) (t_le i j) (Decides-ltb j (i + get_or v.runs i 0))

unfoldable homeb : Graph → List Row → ℕ → ℕ → Bool
homeb g rows s i = ltb i (length rows) && (inb g (row rows i).part s && each_below (λ j. not (inb g (row rows j).part s) || leb (row rows i).inside (row rows j).inside) (length rows))

module _ (μ : Meaning) (sound : Sound μ.graph) (v : View) (L : Listing μ v.rows) where
  fit : (i : ℕ) → i < length v.rows → Proper μ.graph (row v.rows i).part
  fit = proper μ sound v.rows L

  runs_by :
      each_below (λ i. each_below (λ j. agreeb (runb v i j) (holdsb μ.graph (row v.rows i).part (row v.rows j).part)) (length v.rows)) (length v.rows) ≡ true →
      (i j : ℕ) → i < length v.rows → j < length v.rows → (InRun v i j ↔ Holds μ.graph (row v.rows i).part (row v.rows j).part)
  runs_by e i j li lj =
      let f : ℕ → ℕ → Bool = λ i j. agreeb (runb v i j) (holdsb μ.graph (row v.rows i).part (row v.rows j).part) in
      let a = agree (runb v i j) (holdsb μ.graph (row v.rows i).part (row v.rows j).part) (each_at (f i) (length v.rows) (each_at (λ i. each_below (f i) (length v.rows)) (length v.rows) e i li) j lj) in
      let h = t_holds μ.graph sound (row v.rows i).part (row v.rows j).part (fit i li) (fit j lj) in
      (λ r. h.0 (sym a ∙ (t_run v i j).1 r), λ x. (t_run v i j).0 (a ∙ h.1 x))

  home_by : (s i : ℕ) → homeb μ.graph v.rows s i ≡ true → Innermost μ.graph v.rows s i
  unfolding homeb
  home_by s i e =
      let f : ℕ → Bool = λ j. not (inb μ.graph (row v.rows j).part s) || leb (row v.rows i).inside (row v.rows j).inside in
      let h = and_parts (ltb i (length v.rows)) (inb μ.graph (row v.rows i).part s && each_below f (length v.rows)) e in
      let q = and_parts (inb μ.graph (row v.rows i).part s) (each_below f (length v.rows)) h.1 in
      let li = ltb-true i (length v.rows) h.0 in
      record {
        is_row = li;
        inside = (t_in μ.graph sound (row v.rows i).part (fit i li) s).0 q.0;
        fewest = λ j lj x.
            (t_imp (inb μ.graph (row v.rows j).part s) (leb (row v.rows i).inside (row v.rows j).inside) (In μ.graph (row v.rows j).part s) ((row v.rows i).inside ≤ (row v.rows j).inside)
            (t_in μ.graph sound (row v.rows j).part (fit j lj) s) (t_le (row v.rows i).inside (row v.rows j).inside)).0 (each_at f (length v.rows) q.1 j lj) x;
      }

no_marks : (j : ℕ) → mark book5 j ≡ None
no_marks zero = refl
no_marks (suc zero) = refl
no_marks (suc (suc zero)) = refl
no_marks (suc (suc (suc zero))) = refl
no_marks (suc (suc (suc (suc j)))) = refl

opened5 : Opened plan5 book5
unfolding agreeb runb homeb inb holdsb reach reached rounds sweep relax each_below
opened5 =
    record {
      listing = five.listing;
      runs = runs_by plan5 five.sound book5 five.listing refl;
      room = λ i l. leb-true (i + get_or book5.runs i 0) 4 (each_at (λ i. leb (i + get_or book5.runs i 0) 4) 4 refl i l);
      known = refl;
      homes = λ s l. home_by plan5 five.sound book5 five.listing s (get_or book5.homes s 0) (each_at (λ s. homeb plan5.graph rows5 s (get_or book5.homes s 0)) 6 refl s l);
      paired = refl;
      none_out = no_marks;
      start = refl;
    }

run5 : (h : ℕ) → Run book5 (history5 h) (at_place book5 2)
run5 h =
    rejects 1 h 63 1 v2
    (gives 11 (1, h) (ok tt) v2
    (takes 7 h (refused 61 7) w
    (takes 2 h (refused 62 1) w
    (takes 1 h (ok tt) w
    (finds 9 (refused 64 9) v2 (finds 4 (ok 1) v2 (nexts (Some (1, row5 1)) v2 (nexts (Some (0, row5 0)) (at_place book5 1) (restarts book5
    (nexts None v4 (nexts None v4 (nexts (Some (3, row5 3)) v4 (nexts (Some (2, row5 2)) (at_place book5 3) (nexts (Some (1, row5 1)) v2 (nexts (Some (0, row5 0)) (at_place book5 1) opened
    (lit< tt, refl, refl)) (lit< tt, refl, refl)) (lit< tt, refl, refl)) (lit< tt, refl, refl)) (lit≤ tt, refl)) (lit≤ tt, refl))
    refl) (lit< tt, refl, refl)) (lit< tt, refl, refl)) (lit< tt, refl, refl)) (lit≤ tt, refl, refl, refl))
    (lit< tt, λ j l m. none-some m.0.0 (sym (no_marks j) ∙ m.0.1), refl))
    (inr (lit< tt, refl, lit< tt, ((h, refl), inr (lit≤ tt, lit< tt)), first), refl))
    (inl (lit≤ tt, refl, refl), refl))
    (refl, refl) (refl, refl))
    (none-some h, refl, refl, refl)
  where
    v2 : View
    v2 = at_place book5 2

    v4 : View
    v4 = at_place book5 4

    w : View
    w = marked (at_place book5 2) 1 (Some h)

    first : (j : ℕ) → j < 1 → Meets (marked (at_place book5 2) 1 (Some h)) 2 j → ⊥
    first zero l m = none-some m.0.0 m.0.1
    first (suc j) l m = omega arith

pub book_happens : BookHappens
book_happens = (opened5, run5)
