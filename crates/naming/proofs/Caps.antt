-- The loose rule on a plan with two loops, by computing.
use Rattle.std.proofs.Common.{◌≡◌, ℕ, zero, suc, ◌<◌, true, ◌≢◌, ◌⊎◌, [], ◌∷◌, sym, refl, inl, inr, arith, lit<}
use Rattle.model.specs.Meaning.{tail_of, head_of, EndsBelow}
use Rattle.model.specs.Walks.{Links, closed}
use Rattle.theory.specs.Tests.{relax, sweep, rounds, reached, reach, shareb}
use Rattle.theory.proofs.Decide.{share_decided}
use Rattle.naming.specs.Words.{Elem, Once}
use Rattle.naming.specs.Built.{sub_at, kids_from, hi_at, list_at}
use Rattle.naming.specs.Searched.{Upward}
use Rattle.naming.specs.Crossing.{Outer, Drawn}
use Rattle.naming.specs.Caps.{two_loops, found, itself, tree_link, CapToItself}
use Rattle.naming.proofs.Bridge.{five}
use Rattle.naming.specs.Classes.{Numbered}

-- a fact of each number below 7
seven : (Q : ℕ → Type 0) → Q 0 → Q 1 → Q 2 → Q 3 → Q 4 → Q 5 → Q 6 → (k : ℕ) → k < 7 → Q k
seven Q a b c d e f g zero h = a
seven Q a b c d e f g (suc zero) h = b
seven Q a b c d e f g (suc (suc zero)) h = c
seven Q a b c d e f g (suc (suc (suc zero))) h = d
seven Q a b c d e f g (suc (suc (suc (suc zero)))) h = e
seven Q a b c d e f g (suc (suc (suc (suc (suc zero))))) h = f
seven Q a b c d e f g (suc (suc (suc (suc (suc (suc zero)))))) h = g
seven Q a b c d e f g (suc (suc (suc (suc (suc (suc (suc k))))))) h = absurd (omega arith)

-- the only element of a list of one
lone : (Q : ℕ → Type 0) (y : ℕ) → Q y → (x : ℕ) → Elem x (y ∷ []) → Q x
lone Q y q x (inl e) = mathlib.Core.Path.subst Q (sym e) q
lone Q y q x (inr m) = absurd m

upward : Upward found
unfolding sub_at
upward =
    record {
      up = λ k z l. grind arith;
      once = five (λ k. Once (found.links k)) tt tt (λ m. m, tt) (λ m. m, tt) (λ m. m, tt);
      link = λ k x l m. five (λ k. Elem x (found.links k) → (x < 7) × (found.from x ≡ k) × (found.to x < k) × (sub_at found.parent (suc k) (found.to x) k ≡ true))
          (λ m. absurd m) (λ m. absurd m) (lone (Up 2) 2 (lit< tt, refl, lit< tt, refl) x) (lone (Up 3) 4 (lit< tt, refl, lit< tt, refl) x) (lone (Up 4) 6 (lit< tt, refl, lit< tt, refl) x) k l m;
    }
  where
    Up : ℕ → ℕ → Type 0
    Up k x = (x < 7) × (found.from x ≡ k) × (found.to x < k) × (sub_at found.parent (suc k) (found.to x) k ≡ true)

abbrev G : Links
G = closed two_loops

of_tree : (k : ℕ) → 0 < k → k < 5 → Outer found tree_link (tree_link k) → ⊥
of_tree k p l o = o (k, l, (λ e. omega arith), refl)

drawn : Drawn found (tail_of G) (head_of G) tree_link
drawn =
    record {
      each = λ e l o. seven Each (tree 1 o0) (tree 2 o1) two (tree 3 o3) four (tree 4 o5) six e l o;
      outer = λ k x l m. five (λ k. Elem x (found.links k) → Outer found tree_link x) (λ m. absurd m) (λ m. absurd m) (lone (Outer found tree_link) 2 (not_of 2 (λ e. omega arith) (λ e. omega arith) (λ e. omega arith) (λ e. omega arith)) x)
          (lone (Outer found tree_link) 4 (not_of 4 (λ e. omega arith) (λ e. omega arith) (λ e. omega arith) (λ e. omega arith)) x) (lone (Outer found tree_link) 6 (not_of 6 (λ e. omega arith) (λ e. omega arith) (λ e. omega arith) (λ e. omega arith)) x) k l m;
      ends = λ k x l m. five (λ k. Elem x (found.links k) → Ends x) (λ m. absurd m) (λ m. absurd m) (lone Ends 2 (inl (refl, refl)) x) (lone Ends 4 (inl (refl, refl)) x) (lone Ends 6 (inl (refl, refl)) x) k l m;
    }
  where
    Ends : ℕ → Type 0
    Ends x = ((tail_of G x ≡ found.from x) × (head_of G x ≡ found.to x)) ⊎ ((tail_of G x ≡ found.to x) × (head_of G x ≡ found.from x))

    Each : ℕ → Type 0
    Each e = Outer found tree_link e → (tail_of G e ≡ head_of G e) ⊎ ((found.from e < 5) × Elem e (found.links (found.from e)))

    tree : (k : ℕ) → (Outer found tree_link (tree_link k) → ⊥) → Each (tree_link k)
    tree k n o = absurd (n o)

    o0 : Outer found tree_link (tree_link 1) → ⊥
    o0 = of_tree 1 (lit< tt) (lit< tt)

    o1 : Outer found tree_link (tree_link 2) → ⊥
    o1 = of_tree 2 (lit< tt) (lit< tt)

    o3 : Outer found tree_link (tree_link 3) → ⊥
    o3 = of_tree 3 (lit< tt) (lit< tt)

    o5 : Outer found tree_link (tree_link 4) → ⊥
    o5 = of_tree 4 (lit< tt) (lit< tt)

    two : Each 2
    two o = inr (lit< tt, inl refl)

    four : Each 4
    four o = inr (lit< tt, inl refl)

    six : Each 6
    six o = inr (lit< tt, inl refl)

    not_of : (e : ℕ) → tree_link 1 ≢ e → tree_link 2 ≢ e → tree_link 3 ≢ e → tree_link 4 ≢ e → Outer found tree_link e
    not_of e a b c d t = five (λ k. k ≢ 0 → tree_link k ≢ e) (λ n. absurd (n refl)) (λ n. a) (λ n. b) (λ n. c) (λ n. d) t.0 t.1 t.2 t.3

numbered : Numbered two_loops found itself itself tree_link
numbered =
    record {
      size = refl;
      many = refl;
      number_below = λ v l. l;
      step_below = λ k l. l;
      number_step = λ k l. refl;
      step_number = λ v l. refl;
      is_link = λ k p l. grind arith;
      joins = λ k p l.
          five (λ k. 0 < k → ((tail_of G (tree_link k) ≡ found.parent k) × (head_of G (tree_link k) ≡ k)) ⊎ ((tail_of G (tree_link k) ≡ k) × (head_of G (tree_link k) ≡ found.parent k)))
          (λ z. absurd (omega arith)) (λ _. inl (refl, refl)) (λ _. inl (refl, refl)) (λ _. inl (refl, refl)) (λ _. inl (refl, refl)) k l p;
      apart = λ j k pj lj pk lk e. grind arith;
      upward = upward;
      drawn = drawn;
    }

within : EndsBelow 5 G
within k l = grind arith

pub cap_to_itself : CapToItself
unfolding shareb reach reached rounds sweep relax list_at kids_from hi_at
cap_to_itself =
    record {
      searched = numbered;
      together = (share_decided G 5 0 5 within (lit< tt) (lit< tt)).0 refl;
      named = λ d. (refl, refl);
      parted = λ d n. let e = n.1 in omega arith;
    }
