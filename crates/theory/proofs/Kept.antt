-- What every list of calls keeps of a book that is opened over a sound plan, call by call.
use Rattle.std.proofs.Common.{◌≡◌, ℕ, zero, suc, ◌+◌, ◌-◌, ◌<◌, ◌≤◌, Bool, false, cond, ◌||◌, eqb, ◌≢◌, ◌⊎◌, List, [], ◌∷◌, length, Some, None, Option, sym, refl, ap, ◌∙◌, subst, inl, inr, arith, length-set, get_or-set_other, get_or-set_same}
use mathlib.Core.Logic.{∥∥₁_elim}
use mathlib.Core.HLevel.{⊥_prop}
use Rattle.std.proofs.lemmas.Bool.{or_parts, eqb-false, eq-eqb, ne_eqb, cond-true, cond-false}
use Rattle.model.specs.Meaning.{Graph, Meaning}
use Rattle.model.specs.Walks.{Sound}
use Rattle.model.specs.Parts.{Part, In, Proper, Holds, Apart, Clash}
use Rattle.model.specs.Listing.{Row, row}
use Rattle.model.specs.History.{is_for}
use Rattle.theory.specs.Calls.{View, at_place, marked, mark, InRun, Meets, Opened}
use Rattle.theory.proofs.Insides.{some_step, nest}
use Rattle.theory.proofs.Unique.{proper}
use Rattle.std.proofs.lemmas.Bool.Decides.{nat_tests}

-- sh was shown, sl are the slips, en those ended, ho who has each row
pub record Kept (g : Graph) (v w : View) (sh : List Row) (sl : ℕ → Option (ℕ × ℕ)) (en : ℕ → Bool) (ho : ℕ → Option ℕ) : Type 0 where
  pub rows : w.rows ≡ v.rows
  pub runs : w.runs ≡ v.runs
  pub homes : w.homes ≡ v.homes
  pub place : w.place ≡ length sh
  pub fits : length sh ≤ length v.rows
  pub order : (j : ℕ) → j < length sh → row sh j ≡ row v.rows (length sh - suc j)
  pub size : length w.marks ≡ length v.rows
  pub marks : (i : ℕ) → mark w i ≡ ho i
  pub out_row : (i h : ℕ) → ho i ≡ Some h → i < length v.rows
  pub live : (k : ℕ) (s : ℕ × ℕ) → sl k ≡ Some s → en k ≡ false → ho s.0 ≡ Some s.1
  pub alone : (k l : ℕ) (s t : ℕ × ℕ) → (k ≡ l → ⊥) → sl k ≡ Some s → en k ≡ false → sl l ≡ Some t → en l ≡ false → s.0 ≢ t.0
  pub apart : (i j h k : ℕ) → i ≢ j → ho i ≡ Some h → ho j ≡ Some k → Apart g (row v.rows i).part (row v.rows j).part

module _ (v w : View) (i : ℕ) (m : Option ℕ) (li : i < length w.marks) where
  mark_put : (ho : ℕ → Option ℕ) → ((j : ℕ) → mark w j ≡ ho j) → (j : ℕ) → mark (marked w i m) j ≡ cond (eqb j i) m (ho j)
  mark_put ho marks j =
      let at_i = get_or-set_same w.marks i m None li in
      let at_j = get_or-set_other w.marks i j m None in
      let old = marks j in
      grind (arith, nat_tests)

module _ (μ : Meaning) (sound : Sound μ.graph) (v : View) (start : Opened μ v) where
  abbrev g : Graph
  g = μ.graph

  abbrev n : ℕ
  n = length v.rows

  abbrev part : ℕ → Part
  part i = (row v.rows i).part

  pub fit : (i : ℕ) → i < n → Proper g (part i)
  fit = proper μ sound v.rows start.listing

  -- two rows have a step in common exactly when one is in the run of the other
  clash_run : (i j : ℕ) → i < n → j < n → Clash g (part i) (part j) → InRun v i j ⊎ InRun v j i
  clash_run i j li lj c = pick (nest g sound (part i) (part j) (fit i li) (fit j lj))
    where
      pick : Apart g (part i) (part j) ⊎ (Holds g (part i) (part j) ⊎ Holds g (part j) (part i)) → InRun v i j ⊎ InRun v j i
      pick (inl h) = absurd (∥∥₁_elim c ⊥_prop (λ s. h s.0 s.1 s.2))
      pick (inr (inl h)) = inl ((start.runs i j li lj).1 h)
      pick (inr (inr h)) = inr ((start.runs j i lj li).1 h)

  run_clash : (i j : ℕ) → i < n → j < n → InRun v i j ⊎ InRun v j i → Clash g (part i) (part j)
  run_clash i j li lj (inl r) = let s = some_step g sound (part j) (fit j lj) in ∣ (s.0, (start.runs i j li lj).0 r s.0 s.1, s.1) ∣₁
  run_clash i j li lj (inr r) = let s = some_step g sound (part i) (fit i li) in ∣ (s.0, s.1, (start.runs j i lj li).0 r s.0 s.1) ∣₁

  module _ (w : View) (sh : List Row) (sl : ℕ → Option (ℕ × ℕ)) (en : ℕ → Bool) (ho : ℕ → Option ℕ) (K : Kept g v w sh sl en ho) where
    pub meets_from : (i j h : ℕ) → i < n → ho j ≡ Some h → Clash g (part i) (part j) → Meets w i j
    meets_from i j h li o c = ((h, K.marks j ∙ o), rw K.runs (clash_run i j li (K.out_row j h o) c))

    pub meets_clash : (i j : ℕ) → i < n → j < n → Meets w i j → Clash g (part i) (part j)
    meets_clash i j li lj m = run_clash i j li lj (rw K.runs at m.1)

    -- the listing goes on, or begins again
    placed :
        (p : ℕ) (rs : List Row) → p ≡ length rs → length rs ≤ n → ((j : ℕ) → j < length rs → row rs j ≡ row v.rows (length rs - suc j)) →
        Kept g v (at_place w p) rs sl en ho
    placed p rs place fits order =
        record {
          rows = K.rows;
          runs = K.runs;
          homes = K.homes;
          place = place;
          fits = fits;
          order = order;
          size = K.size;
          marks = K.marks;
          out_row = K.out_row;
          live = K.live;
          alone = K.alone;
          apart = K.apart;
        }

    pub kept_next : length sh < n → Kept g v (at_place w (w.place + 1)) (row v.rows (length sh) ∷ sh) sl en ho
    kept_next l = placed (w.place + 1) (row v.rows (length sh) ∷ sh) (omega (arith, K.place)) (omega arith) order
      where
        order : (j : ℕ) → j < suc (length sh) → row (row v.rows (length sh) ∷ sh) j ≡ row v.rows (suc (length sh) - suc j)
        order zero l' = ap (row v.rows) (omega arith)
        order (suc j) l' = K.order j (omega arith) ∙ ap (row v.rows) (omega arith)

    pub kept_restart : Kept g v (at_place w 0) [] sl en ho
    kept_restart = placed 0 [] refl (omega arith) (λ j l. absurd (omega arith))

    -- a row is taken, by the call c
    module _ (i h c : ℕ) (li : i < n) (clear : (j k : ℕ) → ho j ≡ Some k → Clash g (part i) (part j) → ⊥) where
      not_out : (k : ℕ) → ho i ≡ Some k → ⊥
      not_out k o = let s = some_step g sound (part i) (fit i li) in clear i k o ∣ (s.0, s.1, s.1) ∣₁

      -- the row of a live slip is another
      far : (k : ℕ) (s : ℕ × ℕ) → sl k ≡ Some s → en k ≡ false → s.0 ≢ i
      far k s e f d = not_out s.1 (ap ho (sym d) ∙ K.live k s e f)

      data Which (k : ℕ) (s : ℕ × ℕ) : Type 0 where
        new : k ≡ c → s.0 ≡ i → s.1 ≡ h → Which k s
        old : sl k ≡ Some s → Which k s

      which : (k : ℕ) (s : ℕ × ℕ) → cond (eqb k c) (Some (i, h)) (sl k) ≡ Some s → Which k s
      which k s q = grind (arith, nat_tests, new, old)

      -- row j is the one taken, or was out
      either : (j k : ℕ) → cond (eqb j i) (Some h) (ho j) ≡ Some k → (j ≡ i) ⊎ (ho j ≡ Some k)
      either j k q = grind (arith, nat_tests)

      pub kept_take : Kept g v (marked w i (Some h)) sh (λ k. cond (eqb k c) (Some (i, h)) (sl k)) en (λ j. cond (eqb j i) (Some h) (ho j))
      kept_take =
          record {
            rows = K.rows;
            runs = K.runs;
            homes = K.homes;
            place = K.place;
            fits = K.fits;
            order = K.order;
            size = length-set w.marks i (Some h) ∙ K.size;
            marks = mark_put v w i (Some h) (omega (arith, K.size)) ho K.marks;
            out_row = λ j k o. row_of j k (either j k o);
            live = λ k s e f. live_of k s f (which k s e);
            alone = λ k l s t d e f e' f'. alone_of k l s t d f f' (which k s e) (which l t e');
            apart = λ j k x y d o p. apart_of j k x y d (either j x o) (either k y p);
          }
        where
          row_of : (j k : ℕ) → (j ≡ i) ⊎ (ho j ≡ Some k) → j < n
          row_of j k (inl e) = omega arith
          row_of j k (inr o) = K.out_row j k o

          live_of : (k : ℕ) (s : ℕ × ℕ) → en k ≡ false → Which k s → cond (eqb s.0 i) (Some h) (ho s.0) ≡ Some s.1
          live_of k s f (new e r q) = cond-true (eqb s.0 i) (Some h) (ho s.0) (eq-eqb s.0 i r) ∙ cc
          live_of k s f (old e) = cond-false (eqb s.0 i) (Some h) (ho s.0) (ne_eqb s.0 i (far k s e f)) ∙ K.live k s e f

          alone_of : (k l : ℕ) (s t : ℕ × ℕ) → (k ≡ l → ⊥) → en k ≡ false → en l ≡ false → Which k s → Which l t → s.0 ≢ t.0
          alone_of k l s t d f f' (new e r q) (new e' r' q') x = d (e ∙ sym e')
          alone_of k l s t d f f' (new e r q) (old e') x = far l t e' f' (sym x ∙ r)
          alone_of k l s t d f f' (old e) (new e' r' q') x = far k s e f (x ∙ r')
          alone_of k l s t d f f' (old e) (old e') x = K.alone k l s t d e f e' f' x

          apart_of : (j k x y : ℕ) → j ≢ k → (j ≡ i) ⊎ (ho j ≡ Some x) → (k ≡ i) ⊎ (ho k ≡ Some y) → Apart g (part j) (part k)
          apart_of j k x y d (inl e) (inl f) s p q = d (e ∙ sym f)
          apart_of j k x y d (inl e) (inr o) s p q = clear k y o ∣ (s, subst (λ (z : ℕ). In g (part z) s) e p, q) ∣₁
          apart_of j k x y d (inr o) (inl f) s p q = clear j x o ∣ (s, subst (λ (z : ℕ). In g (part z) s) f q, p) ∣₁
          apart_of j k x y d (inr o) (inr o') s p q = K.apart j k x y d o o' s p q

    -- the row of slip k is given back
    module _ (k : ℕ) (s : ℕ × ℕ) (made : sl k ≡ Some s) (going : en k ≡ false) where
      for : (j : ℕ) → is_for (sl k) j ≡ eqb j s.0
      for j = ap (λ (o : Option (ℕ × ℕ)). is_for o j) made

      -- a row that is still out is another, and was out
      still : (j x : ℕ) → cond (is_for (sl k) j) None (ho j) ≡ Some x → (j ≢ s.0) × (ho j ≡ Some x)
      still j x q = let f = for j in grind (arith, nat_tests)

      keeps : (j : ℕ) → j ≢ s.0 → cond (is_for (sl k) j) None (ho j) ≡ ho j
      keeps j d = cond-false (is_for (sl k) j) None (ho j) (for j ∙ ne_eqb j s.0 d)

      pub kept_give : Kept g v (marked w s.0 None) sh sl (λ l. eqb l k || en l) (λ j. cond (is_for (sl k) j) None (ho j))
      kept_give =
          record {
            rows = K.rows;
            runs = K.runs;
            homes = K.homes;
            place = K.place;
            fits = K.fits;
            order = K.order;
            size = length-set w.marks s.0 None ∙ K.size;
            marks = λ j.
                let l = K.out_row s.0 s.1 (K.live k s made going) in
                mark_put v w s.0 None (omega (arith, K.size)) ho K.marks j ∙ ap (λ (b : Bool). cond b None (ho j)) (sym (for j));
            out_row = λ j x o. K.out_row j x (still j x o).1;
            live = λ l t e f.
                let x = or_parts (eqb l k) (en l) f in
                keeps t.0 (K.alone l k t s (eqb-false l k x.0) e x.1 made going) ∙ K.live l t e x.1;
            alone = λ a b x y d e f e' f'. K.alone a b x y d e (or_parts (eqb a k) (en a) f).1 e' (or_parts (eqb b k) (en b) f').1;
            apart = λ a b x y d o p. K.apart a b x y d (still a x o).1 (still b y p).1;
          }
