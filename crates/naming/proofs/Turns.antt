-- The turns of the falling loop.
use Rattle.std.proofs.Common.{◌≡◌, ℕ, zero, suc, ◌+◌, ◌-◌, ◌<◌, ◌≤◌, min, max, Bool, eqb, ltb, ◌⊎◌, ◌↔◌, List, [], ◌∷◌, ◌++◌, length, filter, sym, refl, ap, ◌∙◌, subst, ap₂, inl, inr, arith, length-append}
use Rattle.std.proofs.lemmas.Bool.Decides.{nat_tests}
use Rattle.std.proofs.lemmas.List.Elements.{filter-append}
use Rattle.std.proofs.lemmas.Bool.{cases_eq, ltb-true, lt-ltb}
use Rattle.naming.specs.Words.{Elem, Once, flat, low, second}
use Rattle.naming.specs.Names.{ByMethod, Carries, ending_at}
use Rattle.naming.specs.Built.{Base, kids_from, kids_of, hi_of, shape_of, Ready, Built}
use Rattle.naming.specs.Turns.{numbers, sofar, later, list_of, State, Sofar, Here, Joins, empty, Turns}
use Rattle.naming.proofs.Lists.{keep_inner}
use Rattle.naming.proofs.Joined.{split, cut_self}
use Rattle.naming.proofs.Carried.{count}
use Rattle.naming.proofs.Built.{built, kids_skip}

pub numbers_in : (m k j : ℕ) → Elem j (numbers m k) → (k ≤ j) × (j < k + m)
unfolding numbers
numbers_in zero k j e = absurd e
numbers_in (suc m) k j e = grind (arith, numbers_in m (suc k) j)

pub in_numbers : (m k j : ℕ) → k ≤ j → j < k + m → Elem j (numbers m k)
unfolding numbers
in_numbers zero k j a b = absurd (omega arith)
in_numbers (suc m) k j a b = grind (arith, in_numbers m (suc k) j, cases_eq j k)

pub numbers_once : (m k : ℕ) → Once (numbers m k)
unfolding numbers
numbers_once zero k = tt
numbers_once (suc m) k = (λ e. let r = numbers_in m (suc k) k e in absurd (omega (arith, r.0)), numbers_once m (suc k))

pub numbers_more : (m k : ℕ) → numbers (suc m) k ≡ k ∷ numbers m (suc k)
unfolding numbers
numbers_more m k = refl

pub numbers_none : (m k : ℕ) → m ≡ 0 → numbers m k ≡ []
unfolding numbers
numbers_none m k e = ap (λ (i : ℕ). numbers i k) e

pub kids_none : (parent : ℕ → ℕ) (m k p : ℕ) → m ≡ 0 → kids_from parent m k p ≡ []
unfolding kids_from
kids_none parent m k p e = ap (λ (i : ℕ). kids_from parent i k p) e

pub kids_more : (parent : ℕ → ℕ) (m k : ℕ) → kids_from parent (suc m) k (parent k) ≡ k ∷ kids_from parent m (suc k) (parent k)
unfolding kids_from
kids_more parent m k = grind (arith, nat_tests)

module _ {X : Type 0} (B : Base X) (ready : Ready B) where
  all : Built X B
  all = built B ready

  abbrev goes : ℕ → X → Bool
  goes p x = ltb (B.dst x) p

  start : Sofar B B.size (empty B)
  start =
      record {
        items_is = λ p h. sym (ap (λ l. filter (goes p) (flat (list_of B) l)) (none p));
        len_is = λ p h. sym (ap (λ l. length (flat (list_of B) l)) (none p));
        lo_is = λ p h. sym (ap (low B.size (hi_of B)) (none p));
        lo2_is = λ p h. sym (ap (second B.size (hi_of B)) (none p));
        ends_is = λ p h. sym (ap (λ l. length (ending_at (shape_of B) p l)) (numbers_none (B.size - B.size) B.size (omega arith)));
      }
    where
      none : (p : ℕ) → sofar B B.size p ≡ []
      none p = kids_none B.parent (B.size - B.size) B.size p (omega arith)

  here : (v : ℕ) (s : State X) → v < B.size → Sofar B (suc v) s → Here B v s
  here v s l so =
      record {
        items_here =
            filter-append (goes v) (B.own v) (s.items v) ∙
            ap (λ i. filter (goes v) (B.own v) ++ i) (so.items_is v (omega arith) ∙ ap (λ i. filter (goes v) (flat (list_of B) i)) whole) ∙
            sym (split (shape_of B) law v v l (omega arith)) ∙ cut_self (shape_of B) law v l;
        hi_here = law.hi_is v l ∙ ap (min (B.hi0 v)) (sym (so.lo_is v (omega arith) ∙ ap (low B.size (hi_of B)) whole));
        hi2_here = sym (so.lo2_is v (omega arith) ∙ ap (second B.size (hi_of B)) whole);
        len_here =
            let a = so.len_is v (omega arith) ∙ ap (λ i. length (flat (list_of B) i)) whole in
            let b = so.ends_is v (omega arith) in
            let c = count (shape_of B) law v (later B (suc v)) l (numbers_once (B.size - suc v) (suc v)) are in
            omega arith;
      }
    where
      law : ByMethod (shape_of B)
      law = all.by_method

      whole : sofar B (suc v) v ≡ kids_of B v
      whole = all.done (suc v) v (omega arith) (omega arith) (omega arith)

      are : (j : ℕ) → Elem j (later B (suc v)) ↔ ((v < j) × (j < B.size))
      are j = (
        λ e. let r = numbers_in (B.size - suc v) (suc v) j e in (omega (arith, r.0), omega (arith, r.1)),
        λ h. in_numbers (B.size - suc v) (suc v) j (omega (arith, h.0)) (omega (arith, h.1)),
      )

  next : (v : ℕ) (s t : State X) (xs : List X) → 0 < v → v < B.size → Sofar B (suc v) s → Carries (shape_of B) v xs → Joins B v xs s t → Sofar B v t
  next v s t xs z l so r j =
      record {
        items_is = λ p h. items_is p h (cases_eq (B.parent v) p);
        len_is = λ p h. len_is p h (cases_eq (B.parent v) p);
        lo_is = λ p h. lo_is p h (cases_eq (B.parent v) p);
        lo2_is = λ p h. lo2_is p h (cases_eq (B.parent v) p);
        ends_is = ends_is;
      }
    where
      one : B.size - v ≡ suc (B.size - suc v)
      one = omega arith

      up : B.parent v < v
      up = ready.up v z l

      with_v : sofar B v (B.parent v) ≡ v ∷ sofar B (suc v) (B.parent v)
      with_v = ap (λ (i : ℕ). kids_from B.parent i v (B.parent v)) one ∙ kids_more B.parent (B.size - suc v) v

      without_v : (p : ℕ) → (B.parent v ≡ p → ⊥) → sofar B v p ≡ sofar B (suc v) p
      without_v p d = ap (λ (i : ℕ). kids_from B.parent i v p) one ∙ kids_skip B.parent (B.size - suc v) v p d

      joined : filter (goes (B.parent v)) (t.items (B.parent v)) ≡ filter (goes (B.parent v)) (flat (list_of B) (sofar B v (B.parent v)))
      joined =
          ap (filter (goes (B.parent v))) j.items_up ∙ filter-append (goes (B.parent v)) xs (s.items (B.parent v)) ∙
          ap₂ ◌++◌
          (sym (keep_inner (goes (B.parent v)) (goes v) xs (λ x h. let g = ltb-true (B.dst x) (B.parent v) h in let q = up in lt-ltb (B.dst x) v (omega arith))) ∙
          ap (filter (goes (B.parent v))) r)
          (so.items_is (B.parent v) (let q = up in omega arith)) ∙
          sym (filter-append (goes (B.parent v)) (list_of B v) (flat (list_of B) (sofar B (suc v) (B.parent v)))) ∙
          ap (λ i. filter (goes (B.parent v)) (flat (list_of B) i)) (sym with_v)

      items_is :
          (p : ℕ) → p < v → (B.parent v ≡ p) ⊎ (B.parent v ≡ p → ⊥) → filter (goes p) (t.items p) ≡ filter (goes p) (flat (list_of B) (sofar B v p))
      items_is p h (inl e) = subst (λ (i : ℕ). filter (goes i) (t.items i) ≡ filter (goes i) (flat (list_of B) (sofar B v i))) e joined
      items_is p h (inr d) =
          ap (filter (goes p)) (j.items_rest p h d) ∙ so.items_is p (omega arith) ∙ ap (λ i. filter (goes p) (flat (list_of B) i)) (sym (without_v p d))

      len_is : (p : ℕ) → p < v → (B.parent v ≡ p) ⊎ (B.parent v ≡ p → ⊥) → t.len p ≡ length (flat (list_of B) (sofar B v p))
      len_is p h (inl e) =
          subst (λ (i : ℕ). t.len i ≡ length (flat (list_of B) (sofar B v i))) e
          (j.len_up ∙ ap (λ (i : ℕ). length (list_of B v) + i) (so.len_is (B.parent v) (let q = up in omega arith)) ∙
          sym (length-append (list_of B v) (flat (list_of B) (sofar B (suc v) (B.parent v)))) ∙ ap (λ i. length (flat (list_of B) i)) (sym with_v))
      len_is p h (inr d) = j.len_rest p h d ∙ so.len_is p (omega arith) ∙ ap (λ i. length (flat (list_of B) i)) (sym (without_v p d))

      lo_is : (p : ℕ) → p < v → (B.parent v ≡ p) ⊎ (B.parent v ≡ p → ⊥) → t.lo p ≡ low B.size (hi_of B) (sofar B v p)
      lo_is p h (inl e) =
          subst (λ (i : ℕ). t.lo i ≡ low B.size (hi_of B) (sofar B v i)) e
          (j.lo_up ∙ ap (min (hi_of B v)) (so.lo_is (B.parent v) (let q = up in omega arith)) ∙ ap (low B.size (hi_of B)) (sym with_v))
      lo_is p h (inr d) = j.lo_rest p h d ∙ so.lo_is p (omega arith) ∙ ap (low B.size (hi_of B)) (sym (without_v p d))

      lo2_is : (p : ℕ) → p < v → (B.parent v ≡ p) ⊎ (B.parent v ≡ p → ⊥) → t.lo2 p ≡ second B.size (hi_of B) (sofar B v p)
      lo2_is p h (inl e) =
          subst (λ (i : ℕ). t.lo2 i ≡ second B.size (hi_of B) (sofar B v i)) e
          (j.lo2_up ∙
          ap₂ (λ (a b : ℕ). min (max (hi_of B v) a) b) (so.lo_is (B.parent v) (let q = up in omega arith)) (so.lo2_is (B.parent v) (let q = up in omega arith)) ∙
          ap (second B.size (hi_of B)) (sym with_v))
      lo2_is p h (inr d) = j.lo2_rest p h d ∙ so.lo2_is p (omega arith) ∙ ap (second B.size (hi_of B)) (sym (without_v p d))

      ends_is : (p : ℕ) → p < v → t.ends p ≡ length (ending_at (shape_of B) p (later B v))
      ends_is p h =
          j.ends_up p h ∙ ap (λ (i : ℕ). length (filter (λ x. eqb (B.dst x) p) (B.own v)) + i) (so.ends_is p (omega arith)) ∙
          sym (length-append (filter (λ x. eqb (B.dst x) p) (B.own v)) (ending_at (shape_of B) p (later B (suc v)))) ∙
          ap length (sym (filter-append (λ x. eqb (B.dst x) p) (B.own v) (flat B.own (later B (suc v))))) ∙
          ap (λ i. length (ending_at (shape_of B) p i)) (sym (ap (λ (i : ℕ). numbers i v) one ∙ numbers_more (B.size - suc v) v))

  pub all_turns : Turns X B
  all_turns = record { start = start; here = here; next = next }

pub turns : {X : Type 0} (B : Base X) → Ready B → Turns X B
turns B ready = all_turns B ready
