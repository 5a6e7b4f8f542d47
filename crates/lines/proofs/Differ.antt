-- What stands before a blank or a line feed is told by the line, and so is each field.
use Rattle.std.proofs.Common.{◌≡◌, ℕ, ◌+◌, ◌%◌, ◌^◌, ◌<◌, ◌≤◌, cond, eqb, List, [], ◌∷◌, ◌++◌, get_or, IfSome, Some, None, decimal, Option, sym, refl, ap, ◌∙◌, ap₂, subst, arith, rules}
use Rattle.std.proofs.ByRecursion.{All-push}
use Rattle.std.proofs.lemmas.Fmt.{decimal_by_steps, decimal_injective}
use Rattle.std.specs.List.{AllByRecursion}
use Rattle.std.specs.Option.{option_map}
use Rattle.model.specs.declared.kinds.Kind.{Kind}
use Rattle.model.specs.declared.kinds.Kind.TheVariants.{Whole, Single, Choice, Parallel, Loop, MeshOne, MeshAll, Mixed}
use Rattle.model.specs.declared.numbers.LinkNo.{LinkNo}
use Rattle.model.specs.declared.numbers.RowNo.{RowNo}
use Rattle.model.specs.declared.rowing.Row.{Row}
use Rattle.model.specs.Words.{kind_word}
use Rattle.lines.specs.Lines.{optional}
use Rattle.lines.specs.Differ.{LinesDiffer}

-- each byte comes after the blank
abbrev After : List ℕ → Type 0
After xs = AllByRecursion (λ b. 32 < b) xs

-- a field ends at the first byte that is a blank or comes before it
cut : (e : ℕ) (xs ys us vs : List ℕ) → e ≤ 32 → After xs → After ys → (xs ++ e ∷ []) ++ us ≡ (ys ++ e ∷ []) ++ vs → (xs ≡ ys) × (us ≡ vs)
cut e [] [] us vs le a b q = let t : us ≡ vs = cc in (refl, t)
cut e [] (y ∷ ys) us vs le a b q = let z : e ≡ y = cc in absurd (omega (arith, b.0))
cut e (x ∷ xs) [] us vs le a b q = let z : x ≡ e = cc in absurd (omega (arith, a.0))
cut e (x ∷ xs) (y ∷ ys) us vs le a b q =
    let h : x ≡ y = cc in
    let t : (xs ++ e ∷ []) ++ us ≡ (ys ++ e ∷ []) ++ vs = cc in
    let r = cut e xs ys us vs le a.1 b.1 t in
    (ap₂ ◌∷◌ h r.0, r.1)

each_digit : (P : ℕ → Type 0) → ((d : ℕ) → d < 10 → P (48 + d)) → (n : ℕ) → n < 2 ^ 16 → AllByRecursion P (decimal n)
each_digit P digit n lt =
    decimal_by_steps (λ _ ds. AllByRecursion P ds) (λ k h. (digit k h, tt)) (λ k ds h a. All-push P ds (48 + k % 10) a (digit (k % 10) (omega arith))) n (omega arith)

after_decimal : (n : ℕ) → n < 2 ^ 16 → After (decimal n)
after_decimal n lt = each_digit (λ b. 32 < b) (λ d h. omega arith) n lt

-- a number is no dash
no_dash : (n : ℕ) → n < 2 ^ 16 → decimal n ≡ 45 ∷ [] → ⊥
no_dash n lt e =
    let h = subst (λ (xs : List ℕ). AllByRecursion (λ b. 48 ≤ b) xs) e (each_digit (λ b. 48 ≤ b) (λ d h. omega arith) n lt) in
    omega (arith, h.0)

number_field : (e m n : ℕ) (us vs : List ℕ) → e ≤ 32 → m < 2 ^ 16 → n < 2 ^ 16 → (decimal m ++ e ∷ []) ++ us ≡ (decimal n ++ e ∷ []) ++ vs → (m ≡ n) × (us ≡ vs)
number_field e m n us vs le a b q =
    let r = cut e (decimal m) (decimal n) us vs le (after_decimal m a) (after_decimal n b) q in
    (decimal_injective m n (omega arith) (omega arith) r.0, r.1)

after_dash : After (45 ∷ [])
after_dash = (omega arith, tt)

-- a number that may be missing, of a type that is told by its number
optional_field : {A : Type 0} (f : A → ℕ) → ((x y : A) → f x ≡ f y → x ≡ y) → (o p : Option A) (us vs : List ℕ)
    → IfSome o (λ x. f x < 2 ^ 16) → IfSome p (λ x. f x < 2 ^ 16)
    → (optional (option_map f o) ++ 32 ∷ []) ++ us ≡ (optional (option_map f p) ++ 32 ∷ []) ++ vs → (o ≡ p) × (us ≡ vs)
optional_field f told None None us vs a b q =
    (refl, (cut 32 (45 ∷ []) (45 ∷ []) us vs (omega arith) after_dash after_dash q).1)
optional_field f told None (Some y) us vs a b q =
    absurd (no_dash (f y) b (sym (cut 32 (45 ∷ []) (decimal (f y)) us vs (omega arith) after_dash (after_decimal (f y) b) q).0))
optional_field f told (Some x) None us vs a b q =
    absurd (no_dash (f x) a (cut 32 (decimal (f x)) (45 ∷ []) us vs (omega arith) (after_decimal (f x) a) after_dash q).0)
optional_field f told (Some x) (Some y) us vs a b q =
    let r = number_field 32 (f x) (f y) us vs (omega arith) a b q in
    (ap Some (told x y r.0), r.1)

-- the kind that a word stands for, by its first letters
abbrev kind_from : List ℕ → Kind
kind_from w =
    cond (eqb (get_or w 0 0) 119) Whole
    (cond (eqb (get_or w 0 0) 115) Single
    (cond (eqb (get_or w 0 0) 99) Choice
    (cond (eqb (get_or w 0 0) 112) Parallel
    (cond (eqb (get_or w 0 0) 108) Loop
    (cond (eqb (get_or w 1 0) 105) Mixed
    (cond (eqb (get_or w 5 0) 111) MeshOne MeshAll))))))

kind_back : (k : Kind) → kind_from (kind_word k) ≡ k
kind_back Whole = refl
kind_back Single = refl
kind_back Choice = refl
kind_back Parallel = refl
kind_back Loop = refl
kind_back MeshOne = refl
kind_back MeshAll = refl
kind_back Mixed = refl

after_kind : (k : Kind) → After (kind_word k)
after_kind Whole = search rules
after_kind Single = search rules
after_kind Choice = search rules
after_kind Parallel = search rules
after_kind Loop = search rules
after_kind MeshOne = search rules
after_kind MeshAll = search rules
after_kind Mixed = search rules

kind_field : (j k : Kind) (us vs : List ℕ) → (kind_word j ++ 32 ∷ []) ++ us ≡ (kind_word k ++ 32 ∷ []) ++ vs → (j ≡ k) × (us ≡ vs)
kind_field j k us vs q =
    let r = cut 32 (kind_word j) (kind_word k) us vs (omega arith) (after_kind j) (after_kind k) q in
    (sym (kind_back j) ∙ ap kind_from r.0 ∙ kind_back k, r.1)

abbrev row_of : ℕ → Option RowNo → Kind → Option LinkNo → Option LinkNo → ℕ → Row
row_of number parent kind entry exit inside = record { number = record { 0 = number }; parent = parent; kind = kind; entry = entry; exit = exit; inside = inside }

same_row : (r s : Row) → r.number.0 ≡ s.number.0 → r.parent ≡ s.parent → r.kind ≡ s.kind → r.entry ≡ s.entry → r.exit ≡ s.exit → r.inside ≡ s.inside → r ≡ s
same_row r s number parent kind entry exit inside =
    let same : row_of r.number.0 r.parent r.kind r.entry r.exit r.inside ≡ row_of s.number.0 s.parent s.kind s.entry s.exit s.inside = cc in
    same

pub lines_differ : LinesDiffer
lines_differ r s a b e =
    let number = number_field 32 r.number.0 s.number.0 _ _ (omega arith) a.number b.number e in
    let parent = optional_field (λ p. p.0) (λ x y q. ap (λ n. record { 0 = n }) q) r.parent s.parent _ _ a.parent b.parent number.1 in
    let kind = kind_field r.kind s.kind _ _ parent.1 in
    let entry = optional_field (λ l. l.0) (λ x y q. ap (λ n. record { 0 = n }) q) r.entry s.entry _ _ a.entry b.entry kind.1 in
    let exit = optional_field (λ l. l.0) (λ x y q. ap (λ n. record { 0 = n }) q) r.exit s.exit _ _ a.exit b.exit entry.1 in
    let last = ap (λ (xs : List ℕ). xs ++ []) exit.1 in
    let inside = number_field 10 r.inside s.inside [] [] (omega arith) a.inside b.inside last in
    same_row r s number.0 parent.0 kind.0 entry.0 exit.0 inside.0
