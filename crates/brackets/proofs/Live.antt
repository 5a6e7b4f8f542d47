-- Lists moved and changed, as the rows of a table see it.
use Rattle.std.proofs.Common.{◌≡◌, ℕ, ◌+◌, ◌<◌, ◌≤◌, cond, eqb, ltb, ◌⊎◌, List, [], ◌∷◌, ◌++◌, length, set, Some, sym, refl, ap, ◌∙◌, subst, ap₂, inl, inr}
use Rattle.std.proofs.lemmas.Bool.{cases_lt, cond_both, cond-true, cond-false, eq-eqb, ne_eqb, le-ltb}
use Rattle.std.proofs.lemmas.List.{get_or_past}
use Rattle.std.specs.List.{AllByRecursion}
use Rattle.std.proofs.ByRecursion.{All-append}
use Rattle.lists.specs.Many.{row, Reads}
use Rattle.lists.specs.Rows.{put, top, rest}
use Rattle.lists.proofs.Many.{reads-set, top_some}
use Rattle.brackets.specs.declared.holding.Bracket.{Bracket}
use Rattle.brackets.specs.declared.levels.Level.{Level}
use Rattle.brackets.specs.Levels.{level, has_cap}
use Rattle.brackets.specs.Live.{live, moved, left, passed, with_start, with_cap}

pub put_same : {T : Type 0} (rows : ℕ → List T) (j : ℕ) (xs : List T) → put rows j xs j ≡ xs
put_same rows j xs = cond-true (eqb j j) xs (rows j) (eq-eqb j j refl)

pub put_other : {T : Type 0} (rows : ℕ → List T) (j k : ℕ) (xs : List T) → (k ≡ j → ⊥) → put rows j xs k ≡ rows k
put_other rows j k xs d = cond-false (eqb k j) xs (rows k) (ne_eqb k j d)

-- what holds of each row holds of each list that is read, past the end too
pub read_all : {T : Type 0} (P : List T → Type 0) (t : List (List T)) (rows : ℕ → List T) → P [] → Reads t rows → ((j : ℕ) → P (rows j)) → (j : ℕ) → P (row t j)
read_all P t rows none r all j = pick (cases_lt j (length t))
  where
    pick : (j < length t) ⊎ (length t ≤ j) → P (row t j)
    pick (inl lt) = subst P (sym (r j lt)) (all j)
    pick (inr ge) = subst P (sym (get_or_past t j [] ge)) none

-- a join, as the rows see it
pub joined : (t s : List (List Bracket)) (rows : ℕ → List Bracket) (i j : ℕ) → i < length t → j < length t → Reads t rows → s ≡ set (set t j []) i (row t j ++ row t i) → Reads s (moved rows i j)
joined t s rows i j li lj r e =
    subst (λ (u : List (List Bracket)). Reads u (moved rows i j)) (sym (e ∙ ap (set (set t j []) i) (ap₂ ◌++◌ (r j lj) (r i li))))
    (reads-set (set t j []) (put rows j []) i (rows j ++ rows i) (reads-set t rows j [] r))

-- a list that is made live, as the rows see it
pub made_live : (t s : List (List Bracket)) (rows : ℕ → List Bracket) (v : ℕ) → v < length t → Reads t rows → s ≡ set t v (live v (row t v)) → Reads s (put rows v (live v (rows v)))
made_live t s rows v lv r e =
    subst (λ (u : List (List Bracket)). Reads u (put rows v (live v (rows v)))) (sym (e ∙ ap (λ (xs : List Bracket). set t v (live v xs)) (r v lv))) (reads-set t rows v (live v (rows v)) r)

-- rows that agree below n are moved alike
module _ (n v own parent : ℕ) (lv : v < n) (lo : own < n) (lp : parent < n) (f g : ℕ → List Bracket) (same : (j : ℕ) → j < n → f j ≡ g j) where
  moved_same : (j : ℕ) → j < n → moved f v own j ≡ moved g v own j
  moved_same j lj = ap₂ (λ (xs ys : List Bracket). cond (eqb j v) xs (cond (eqb j own) [] ys)) (ap₂ ◌++◌ (same own lo) (same v lv)) (same j lj)

  pub left_same : left f v own ≡ left g v own
  left_same = ap (live v) (moved_same v lv)

  kept_same : (j : ℕ) → j < n → put (moved f v own) v (left f v own) j ≡ put (moved g v own) v (left g v own) j
  kept_same j lj = ap₂ (λ (xs ys : List Bracket). cond (eqb j v) xs ys) left_same (moved_same j lj)

  pub passed_same : (j : ℕ) → j < n → passed f v own parent j ≡ passed g v own parent j
  passed_same j lj = ap₂ (λ (xs ys : List Bracket). cond (eqb j parent) xs (cond (eqb j v) [] ys)) (ap₂ ◌++◌ (kept_same v lv) (kept_same parent lp)) (kept_same j lj)

-- the tops of a list that has ended
pub ended : (v : ℕ) (x : Bracket) (xs : List Bracket) → Some x ≡ top xs → v ≤ x.to → live v xs ≡ live v (rest xs)
ended v x xs e h = ap (live v) (top_some x xs e) ∙ cond-false (ltb x.to v) (x ∷ rest xs) (live v (rest xs)) (le-ltb x.to v h)

-- what holds of each bracket of each list, holds of each after a list is changed, if it holds of each of that list
module _ (Q : Bracket → Type 0) where
  pub all_put : (rows : ℕ → List Bracket) (j : ℕ) (xs : List Bracket) → ((k : ℕ) → AllByRecursion Q (rows k)) → AllByRecursion Q xs → (k : ℕ) → AllByRecursion Q (put rows j xs k)
  all_put rows j xs all a k = cond_both (eqb k j) xs (rows k) (AllByRecursion Q) (λ _. a) (λ _. all k)

  pub all_moved : (rows : ℕ → List Bracket) (i j : ℕ) → ((k : ℕ) → AllByRecursion Q (rows k)) → (k : ℕ) → AllByRecursion Q (moved rows i j k)
  all_moved rows i j all = all_put (put rows j []) i (rows j ++ rows i) (all_put rows j [] all tt) (All-append Q (rows j) (rows i) (all j) (all i))

  pub all_live : (v : ℕ) (bs : List Bracket) → AllByRecursion Q bs → AllByRecursion Q (live v bs)
  all_live v [] a = tt
  all_live v (b ∷ bs) a = cond_both (ltb b.to v) (b ∷ bs) (live v bs) (AllByRecursion Q) (λ _. a) (λ _. all_live v bs a.1)

  pub all_left : (rows : ℕ → List Bracket) (v own : ℕ) → ((k : ℕ) → AllByRecursion Q (rows k)) → AllByRecursion Q (left rows v own)
  all_left rows v own all = all_live v (moved rows v own v) (all_moved rows v own all v)

  pub all_passed : (rows : ℕ → List Bracket) (v own parent : ℕ) → ((k : ℕ) → AllByRecursion Q (rows k)) → (k : ℕ) → AllByRecursion Q (passed rows v own parent k)
  all_passed rows v own parent all =
      all_moved (put (moved rows v own) v (left rows v own)) parent v (all_put (moved rows v own) v (left rows v own) (all_moved rows v own all) (all_left rows v own all))

  pub all_capped : (n many : ℕ) (levels : List Level) (rows : ℕ → List Bracket) (v : ℕ) → Q (record { item = many + v; to = (level levels v).hi2 }) → ((k : ℕ) → AllByRecursion Q (rows k)) →
      (k : ℕ) → AllByRecursion Q (with_cap n many levels rows v k)
  all_capped n many levels rows v cap all =
      cond_both (has_cap (level levels v) v) (with_start n rows (many + v) v (level levels v).hi2) rows (λ (f : ℕ → List Bracket). (k : ℕ) → AllByRecursion Q (f k))
      (λ _. all_put rows (n + v) (record { item = many + v; to = (level levels v).hi2 } ∷ rows (n + v)) all (cap, all (n + v))) (λ _. all)
