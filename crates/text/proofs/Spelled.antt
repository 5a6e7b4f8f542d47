-- What a text spells is determined by the text.
use Rattle.std.proofs.Common.{◌≡◌, ℕ, zero, suc, ◌*◌, ◌/◌, ◌%◌, ◌<◌, true, false, eqb, ◌⊎◌, List, [], ◌∷◌, ◌++◌, length, is_some, sym, refl, ap, ◌∙◌, subst, ⊎_elim, append_assoc, not-suc-le-zero, arith}
use Rattle.std.proofs.lemmas.List.{append_cancel_left, length-append}
use Rattle.std.proofs.lemmas.Bool.{cond-false}
use Rattle.std.proofs.lemmas.Bool.Decides.{nat_tests}
use Rattle.std.specs.List.{AllByRecursion}
use Rattle.text.specs.Decoded.{IsFrame}
use Rattle.text.specs.Digit.{hex, digit_of}
use Rattle.text.specs.Line.{first_line, Digits, GoodLine}
use Rattle.text.specs.Spelling.{digits_of, spelled}

hex_digit : (n : ℕ) → n < 16 → is_some (digit_of (hex n)) ≡ true
hex_digit n h = grind (arith, nat_tests)

hex_no_feed : (n : ℕ) → eqb (hex n) 10 ≡ false
hex_no_feed n = grind (arith, nat_tests)

hex_same : (m n : ℕ) → m < 16 → n < 16 → hex m ≡ hex n → m ≡ n
hex_same m n hm hn e = grind (arith, nat_tests)

-- a spelled line is what stands before the first line feed
first_spelled : (g more : List ℕ) → first_line (digits_of g ++ (10 ∷ more)) ≡ digits_of g
first_spelled [] more = refl
first_spelled (b ∷ g) more =
    cond-false _ _ _ (hex_no_feed (b / 16))
    ∙ ap (λ xs. hex (b / 16) ∷ xs) (cond-false _ _ _ (hex_no_feed (b % 16)) ∙ ap (λ xs. hex (b % 16) ∷ xs) (first_spelled g more))

digits_good : (g : List ℕ) → AllByRecursion (λ b. b < 256) g → Digits (digits_of g) (length (digits_of g))
digits_good [] small k h = absurd (not-suc-le-zero h)
digits_good (b ∷ g) small zero h = hex_digit (b / 16) (omega (arith, small.0))
digits_good (b ∷ g) small (suc zero) h = hex_digit (b % 16) (omega arith)
digits_good (b ∷ g) small (suc (suc k)) h = digits_good g small.1 k (omega arith)

pub length-digits_of : (g : List ℕ) → length (digits_of g) ≡ 2 * length g
length-digits_of [] = refl
length-digits_of (b ∷ g) = omega (arith, length-digits_of g)

good_line : (g : List ℕ) → IsFrame g → GoodLine (digits_of g)
good_line g f = record {
  some = omega (arith, length-digits_of g, f.0);
  digits = digits_good g f.1;
  even = omega (arith, length-digits_of g);
}

digits_same : (f g : List ℕ) → AllByRecursion (λ b. b < 256) f → AllByRecursion (λ b. b < 256) g → digits_of f ≡ digits_of g → f ≡ g
digits_same [] [] sf sg e = refl
digits_same [] (c ∷ g) sf sg e = absurd (omega (arith, ap length e))
digits_same (b ∷ f) [] sf sg e = absurd (omega (arith, ap length e))
digits_same (b ∷ f) (c ∷ g) sf sg e =
    let high : hex (b / 16) ≡ hex (c / 16) = cc in
    let low : hex (b % 16) ≡ hex (c % 16) = cc in
    let rest : digits_of f ≡ digits_of g = cc in
    let h = hex_same (b / 16) (c / 16) (omega (arith, sf.0)) (omega (arith, sg.0)) high in
    let l = hex_same (b % 16) (c % 16) (omega arith) (omega arith) low in
    let same : b ≡ c = omega arith in
    let tails = digits_same f g sf.1 sg.1 rest in
    cc

-- a spelled line stands at the front of no text that stops there
abbrev pub Stuck : List ℕ → Type 0
Stuck rest = (rest ≡ []) ⊎ (GoodLine (first_line rest) → ⊥)

not_stuck : (g more rest : List ℕ) → IsFrame g → rest ≡ digits_of g ++ (10 ∷ more) → Stuck rest → ⊥
not_stuck g more rest f e =
    ⊎_elim
    (λ (none : rest ≡ []). omega (arith, length-append (digits_of g) (10 ∷ more), ap length e, ap length none))
    (λ (bad : GoodLine (first_line rest) → ⊥). bad (subst (λ (bs : List ℕ). GoodLine bs) (sym (ap first_line e ∙ first_spelled g more)) (good_line g f)))

spelled_cons : (g : List ℕ) (gs : List (List ℕ)) (rest : List ℕ) → spelled (g ∷ gs) ++ rest ≡ digits_of g ++ (10 ∷ (spelled gs ++ rest))
unfolding spelled
spelled_cons g gs rest = append_assoc (digits_of g ++ 10 ∷ []) (spelled gs) rest ∙ append_assoc (digits_of g) (10 ∷ []) (spelled gs ++ rest)

spelled_nil : (rest : List ℕ) → spelled [] ++ rest ≡ rest
unfolding spelled
spelled_nil rest = refl

-- the frames that a text begins with, up to where it stops, and what is left are determined
pub one_way : (fs gs : List (List ℕ)) (r s : List ℕ) → AllByRecursion IsFrame fs → AllByRecursion IsFrame gs → Stuck r → Stuck s → spelled fs ++ r ≡ spelled gs ++ s → (fs ≡ gs) × (r ≡ s)
one_way [] [] r s ff fg kr ks e = (refl, sym (spelled_nil r) ∙ e ∙ spelled_nil s)
one_way [] (g ∷ gs) r s ff fg kr ks e = absurd (not_stuck g (spelled gs ++ s) r fg.0 (sym (spelled_nil r) ∙ e ∙ spelled_cons g gs s) kr)
one_way (f ∷ fs) [] r s ff fg kr ks e = absurd (not_stuck f (spelled fs ++ r) s ff.0 (sym (spelled_nil s) ∙ sym e ∙ spelled_cons f fs r) ks)
one_way (f ∷ fs) (g ∷ gs) r s ff fg kr ks e =
    let lines : digits_of f ++ (10 ∷ (spelled fs ++ r)) ≡ digits_of g ++ (10 ∷ (spelled gs ++ s)) = sym (spelled_cons f fs r) ∙ e ∙ spelled_cons g gs s in
    let heads : digits_of f ≡ digits_of g = sym (first_spelled f (spelled fs ++ r)) ∙ ap first_line lines ∙ first_spelled g (spelled gs ++ s) in
    let tails : 10 ∷ (spelled fs ++ r) ≡ 10 ∷ (spelled gs ++ s) = append_cancel_left (digits_of g) _ _ (ap (λ xs. xs ++ (10 ∷ (spelled fs ++ r))) (sym heads) ∙ lines) in
    let same : f ≡ g = digits_same f g ff.0.1 fg.0.1 heads in
    let rest : spelled fs ++ r ≡ spelled gs ++ s = cc in
    let more = one_way fs gs r s ff.1 fg.1 kr ks rest in
    (ap (λ x. x ∷ fs) same ∙ ap (λ xs. g ∷ xs) more.0, more.1)
