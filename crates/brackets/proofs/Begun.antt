-- The back links, put one by one to the numbers that they start from.
use Rattle.std.proofs.Common.{◌≡◌, ℕ, suc, ◌+◌, ◌-◌, ◌<◌, ◌≤◌, Bool, true, false, cond, ◌&&◌, eqb, ltb, ◌⊎◌, List, [], ◌∷◌, length, replicate, filter, sym, refl, ap, ◌∙◌, subst, ap₂, inl, inr, arith}
use Rattle.std.specs.List.{AllByRecursion}
use Rattle.std.proofs.ByRecursion.{All-weaker}
use Rattle.std.proofs.lemmas.List.{get_or-replicate, length-replicate}
use Rattle.std.proofs.lemmas.Bool.{cases_eq, and_left, and_right, eq-eqb, ne_eqb}
use Rattle.lists.specs.Many.{row, Reads}
use Rattle.model.specs.Meaning.{EndsBelow}
use Rattle.model.specs.Walks.{Links}
use Rattle.naming.specs.Words.{low}
use Rattle.naming.specs.Names.{ending_at}
use Rattle.naming.specs.Built.{Base, shape_of}
use Rattle.naming.specs.Searched.{Searched, Upward, base_of}
use Rattle.naming.specs.Turns.{later, State, Sofar, empty}
use Rattle.naming.specs.DepthFirst.{DepthFirst, from_end, to_end, is_back, back_links, searched}
use Rattle.naming.specs.Ended.{back_ends, cap_ends}
use Rattle.naming.proofs.DepthFirst.{links_none, links_yes, links_no, upward}
use Rattle.naming.proofs.Searched.{ready, link_dst}
use Rattle.naming.proofs.Turns.{turns}
use Rattle.brackets.specs.declared.levels.Level.{Level}
use Rattle.brackets.specs.declared.holding.Bracket.{Bracket}
use Rattle.brackets.specs.Levels.{bare, level, change, having_back_link, having_end}
use Rattle.brackets.specs.Live.{items, with_start, started}
use Rattle.brackets.specs.Swept.{Begun, state, Swept}
use Rattle.brackets.proofs.Changes.{change_same, change_other, change_long}
use Rattle.brackets.proofs.Live.{put_same, put_other, read_all, all_put}

module _ (G : Links) (n : ℕ) (number link : ℕ → ℕ) where
  abbrev to : ℕ → ℕ
  to = to_end G n number link

  abbrev from : ℕ → ℕ
  from = from_end G n number link

  abbrev L : ℕ → ℕ → List ℕ
  L = back_links G n number link

  abbrev ended : ℕ → ℕ → ℕ
  ended = back_ends G n number link

  abbrev Good : ℕ → Bracket → Type 0
  Good m b = (b.item < m) × (b.to ≡ to b.item)

  known_by : ℕ → ℕ → Level
  known_by h e = record { hi0 = h; hi1 = n; hi2 = n; len = 0; ends = e }

  pub begun_none : (levels : List Level) → levels ≡ replicate n (bare n) → Begun G n number link 0 (λ _. []) levels
  unfolding known_by
  begun_none levels e =
      record {
        long = ap length e ∙ length-replicate n (bare n);
        right = λ j. tt;
        none = λ p l. refl;
        own = λ p l. sym (links_none G n number link p);
        known = λ p l. ap (λ (ls : List Level). level ls p) e ∙ get_or-replicate n p (bare n) (bare 0) l ∙ ap (λ (xs : List ℕ). known_by (low n to xs) 0) (sym (links_none G n number link p));
      }

  module _ (m : ℕ) (rows : ℕ → List Bracket) (levels : List Level) (B : Begun G n number link m rows levels) where
    wider : (j : ℕ) → AllByRecursion (Good (suc m)) (rows j)
    wider j = All-weaker (Good m) (Good (suc m)) (λ b h. (omega (arith, h.0), h.1)) (rows j) (B.right j)

    -- link m is no back link
    pub begun_skip : is_back G n number link m ≡ false → Begun G n number link (suc m) rows levels
    unfolding known_by
    begun_skip t =
        record {
          long = B.long;
          right = wider;
          none = B.none;
          own = λ p l. B.own p l ∙ sym (same p);
          known = λ p l. B.known p l ∙ ap₂ known_by (ap (low n to) (sym (same p))) (sym (more p));
        }
      where
        same : (p : ℕ) → L (suc m) p ≡ L m p
        same p = links_no G n number link m p (and_left (is_back G n number link m) (eqb (from m) p) t)

        more : (p : ℕ) → ended (suc m) p ≡ ended m p
        more p =
            let e : ◌≡◌ {A = ℕ} (cond (is_back G n number link m && eqb (to m) p) 1 0) 0 = ap (λ (s : Bool). cond s 1 0) (and_left (is_back G n number link m) (eqb (to m) p) t) in
            omega arith

    -- link m is one
    pub begun_more : is_back G n number link m ≡ true → from m < n → to m < from m → Begun G n number link (suc m) (with_start n rows m (from m) (to m)) (started levels (from m) (to m))
    unfolding known_by
    begun_more t lf lt =
        record {
          long = change_long (change levels (from m) (λ l. having_back_link l (to m))) (to m) having_end ∙ change_long levels (from m) (λ l. having_back_link l (to m)) ∙ B.long;
          right = all_put (Good (suc m)) rows (n + from m) (b ∷ rows (n + from m)) wider ((omega arith, refl), wider (n + from m));
          none = λ p l. put_other rows (n + from m) p (b ∷ rows (n + from m)) (λ e. absurd (omega arith)) ∙ B.none p l;
          own = λ p l. own p l (cases_eq p (from m));
          known = λ p l. known p l (cases_eq p (from m)) (cases_eq p (to m));
        }
      where
        b : Bracket
        b = record { item = m; to = to m }

        here : L (suc m) (from m) ≡ m ∷ L m (from m)
        here = links_yes G n number link m (from m) (ap (λ (s : Bool). s && eqb (from m) (from m)) t ∙ eq-eqb (from m) (from m) refl)

        else : (p : ℕ) → (p ≡ from m → ⊥) → L (suc m) p ≡ L m p
        else p d = links_no G n number link m p (and_right (is_back G n number link m) (eqb (from m) p) (ne_eqb (from m) p (λ e. d (sym e))))

        own : (p : ℕ) → p < n → (p ≡ from m) ⊎ (p ≡ from m → ⊥) → items (with_start n rows m (from m) (to m) (n + p)) ≡ L (suc m) p
        own p l (inl e) =
            subst (λ (i : ℕ). items (with_start n rows m (from m) (to m) (n + i)) ≡ L (suc m) i) (sym e)
            (ap items (put_same rows (n + from m) (b ∷ rows (n + from m))) ∙ ap (λ (xs : List ℕ). m ∷ xs) (B.own (from m) lf) ∙ sym here)
        own p l (inr d) =
            ap items (put_other rows (n + from m) (n + p) (b ∷ rows (n + from m)) (λ e. d (omega arith))) ∙ B.own p l ∙ sym (else p d)

        counts : (p : ℕ) (s : Bool) → eqb (to m) p ≡ s → ended (suc m) p ≡ cond s 1 0 + ended m p
        counts p s e = ap (λ (x : Bool). cond (x && eqb (to m) p) 1 0 + ended m p) t ∙ ap (λ (x : Bool). cond x 1 0 + ended m p) e

        in_levels : to m < length (change levels (from m) (λ l. having_back_link l (to m)))
        in_levels = let a = change_long levels (from m) (λ l. having_back_link l (to m)) in let c = B.long in omega arith

        zero_left : (x : ℕ) → 0 + x ≡ x
        zero_left x = omega arith

        one_more : (x : ℕ) → x + 1 ≡ 1 + x
        one_more x = omega arith

        known : (p : ℕ) → p < n → (p ≡ from m) ⊎ (p ≡ from m → ⊥) → (p ≡ to m) ⊎ (p ≡ to m → ⊥) →
            level (started levels (from m) (to m)) p ≡ known_by (low n to (L (suc m) p)) (ended (suc m) p)
        known p l (inl e) (inl q) = absurd (omega arith)
        known p l (inl e) (inr d) =
            change_other (change levels (from m) (λ l. having_back_link l (to m))) (to m) having_end p d ∙
            change_same levels (from m) (λ l. having_back_link l (to m)) p e (let c = B.long in omega arith) ∙
            ap (λ (x : Level). having_back_link x (to m)) (B.known (from m) lf) ∙
            ap₂ known_by (ap (low n to) (sym (ap (L (suc m)) e ∙ here))) (ap (ended m) (sym e) ∙ sym (counts p false (ne_eqb (to m) p (λ r. d (sym r))) ∙ zero_left (ended m p)))
        known p l (inr d) (inl q) =
            change_same (change levels (from m) (λ l. having_back_link l (to m))) (to m) having_end p q in_levels ∙
            ap having_end (change_other levels (from m) (λ l. having_back_link l (to m)) (to m) (λ r. d (q ∙ r)) ∙ ap (level levels) (sym q) ∙ B.known p l) ∙
            ap₂ known_by (ap (low n to) (sym (else p d))) (one_more (ended m p) ∙ sym (counts p true (eq-eqb (to m) p (sym q))))
        known p l (inr d) (inr q) =
            change_other (change levels (from m) (λ l. having_back_link l (to m))) (to m) having_end p q ∙ change_other levels (from m) (λ l. having_back_link l (to m)) p d ∙ B.known p l ∙
            ap₂ known_by (ap (low n to) (sym (else p d))) (sym (counts p false (ne_eqb (to m) p (λ r. q (sym r))) ∙ zero_left (ended m p)))

-- states that agree below k
pub sofar_same : (B : Base ℕ) (k : ℕ) (s t : State ℕ) → Sofar B k s → ((p : ℕ) → p < k → t.items p ≡ s.items p) → ((p : ℕ) → p < k → t.len p ≡ s.len p) →
    ((p : ℕ) → p < k → t.lo p ≡ s.lo p) → ((p : ℕ) → p < k → t.lo2 p ≡ s.lo2 p) →
    ((p : ℕ) → p < k → t.ends p ≡ length (ending_at (shape_of B) p (later B k))) → Sofar B k t
sofar_same B k s t so a b c d f =
    record {
      items_is = λ p l. ap (filter (λ x. ltb (B.dst x) p)) (a p l) ∙ so.items_is p l;
      len_is = λ p l. b p l ∙ so.len_is p l;
      lo_is = λ p l. c p l ∙ so.lo_is p l;
      lo2_is = λ p l. d p l ∙ so.lo2_is p l;
      ends_is = f;
    }

-- what is said of rows holds of the lists that are read
pub begun_read : (G : Links) (n : ℕ) (number link : ℕ → ℕ) (m : ℕ) (t : List (List Bracket)) (rows : ℕ → List Bracket) (levels : List Level) → Reads t rows → length t ≡ n + n →
    Begun G n number link m rows levels → Begun G n number link m (row t) levels
begun_read G n number link m t rows levels r e B =
    record {
      long = B.long;
      right = read_all (AllByRecursion (Good G n number link m)) t rows tt r B.right;
      none = λ p l. r p (omega arith) ∙ B.none p l;
      own = λ p l. ap items (r (n + p) (omega arith)) ∙ B.own p l;
      known = B.known;
    }

pub swept_read : (P : Searched) (back : ℕ → ℕ) (k : ℕ) (t : List (List Bracket)) (rows : ℕ → List Bracket) (levels : List Level) → Reads t rows → length t ≡ P.size + P.size → k ≤ P.size →
    Swept P back k rows levels → Swept P back k (row t) levels
swept_read P back k t rows levels r e few W =
    record {
      long = W.long;
      right = read_all (AllByRecursion (λ b. b.to ≡ (base_of P).dst b.item)) t rows tt r W.right;
      own = λ p l. ap items (r (P.size + p) (omega arith)) ∙ W.own p l;
      sofar = sofar_same (base_of P) k (state P k rows levels) (state P k (row t) levels) W.sofar (λ p l. ap items (r p (omega arith))) (λ p l. refl) (λ p l. refl) (λ p l. refl) (λ p l. refl);
      hi0 = W.hi0;
      ends = W.ends;
    }

module _ (G : Links) (n : ℕ) (within : EndsBelow n G) (number step parent link : ℕ → ℕ) (T : DepthFirst G n number step parent link) where
  -- all links are looked at: no number is handled yet
  pub begun_swept : (rows : ℕ → List Bracket) (levels : List Level) → Begun G n number link (length G) rows levels → Swept (searched G n number parent link) (back_ends G n number link (length G)) n rows levels
  unfolding cap_ends
  begun_swept rows levels B =
      record {
        long = B.long;
        right = λ j. All-weaker (Good G n number link (length G)) (λ b. b.to ≡ (base_of P).dst b.item) (λ b h. h.1 ∙ sym (link_dst P good b.item h.0)) (rows j) (B.right j);
        own = B.own;
        sofar = sofar_same (base_of P) n (empty (base_of P)) (state P n rows levels) (turns (base_of P) (ready P good)).start
            (λ p l. ap items (B.none p l)) (λ p l. ap (λ (x : Level). x.len) (B.known p l)) (λ p l. ap (λ (x : Level). x.hi1) (B.known p l)) (λ p l. ap (λ (x : Level). x.hi2) (B.known p l)) (λ p l. refl);
        hi0 = λ p l. ap (λ (x : Level). x.hi0) (B.known p l);
        ends = λ p l. ap (λ (x : Level). x.ends) (B.known p l) ∙ none p;
      }
    where
      P : Searched
      P = searched G n number parent link

      good : Upward (searched G n number parent link)
      good = upward G n within number step parent link T

      none : (p : ℕ) → back_ends G n number link (length G) p ≡ back_ends G n number link (length G) p + cap_ends (searched G n number parent link) (n - n) n p
      none p =
          let z : n - n ≡ 0 = omega arith in
          let e : cap_ends (searched G n number parent link) (n - n) n p ≡ 0 = ap (λ (i : ℕ). cap_ends (searched G n number parent link) i n p) z in
          omega arith
