-- What the frames of a table's beginning were written from is determined, and each frame of a table may come where it comes.
use Rattle.std.proofs.Common.{◌≡◌, ℕ, ◌+◌, ◌<◌, ◌≤◌, ◌⊎◌, List, [], ◌∷◌, ◌++◌, map, length, get_or, Some, None, Option, sym, refl, ap, ◌∙◌, subst, inl, inr, ⊎_elim, arith}
use Rattle.std.proofs.lemmas.List.{length-append}
use Rattle.std.specs.List.{AllByRecursion}
use Rattle.model.specs.Meaning.{Meaning}
use Rattle.model.specs.Words.{logic_number}
use Rattle.model.specs.declared.numbers.Logic.{Logic}
use Rattle.model.specs.declared.numbers.Logic.TheVariants.{One, All as Every}
use Rattle.plan.specs.Checks.{Begins, Passes, First, Faulty, line_faults}
use Rattle.plan.specs.Reading.{Stray}
use Rattle.plan.specs.Writing.{two_numbers, head_frame, step_frame, link_frame, frames_of}
use Rattle.plan.specs.declared.faults.PlanFault.{PlanFault}
use Rattle.plan.proofs.Unwritten.{one_meaning, next_frame}

-- of a list of checks, one is the first that fails, and none where all are passed
pub one_first : (P : PlanFault → Type 0) (fs : List PlanFault) (a b : PlanFault) → First P fs a → First P fs b → a ≡ b
one_first P [] a b x y = absurd x
one_first P (f ∷ fs) a b x y =
    ⊎_elim
    (λ (u : (f ≡ a) × (P f → ⊥)). ⊎_elim (λ (v : (f ≡ b) × (P f → ⊥)). sym u.0 ∙ v.0) (λ (v : P f × First P fs b). absurd (u.1 v.0)) y)
    (λ (u : P f × First P fs a). ⊎_elim (λ (v : (f ≡ b) × (P f → ⊥)). absurd (v.1 u.0)) (λ (v : P f × First P fs b). one_first P fs a b u.1 v.1) y)
    x

pub none_first : (P : PlanFault → Type 0) (fs : List PlanFault) (e : PlanFault) → AllByRecursion P fs → First P fs e → ⊥
none_first P [] e all x = x
none_first P (f ∷ fs) e all x =
    ⊎_elim (λ (u : (f ≡ e) × (P f → ⊥)). u.1 all.0) (λ (u : P f × First P fs e). none_first P fs e all.1 u.1) x

pub one_beginning : (frames : List (List ℕ)) (told told' : Option Meaning) → Begins frames told → Begins frames told' → told ≡ told'
one_beginning frames None None b b' = refl
one_beginning frames None (Some ν) b b' = absurd (omega (arith, ap length (sym b.0 ∙ b'.0)))
one_beginning frames (Some μ) None b b' = absurd (omega (arith, ap length (sym b.0 ∙ b'.0)))
one_beginning frames (Some μ) (Some ν) b b' = ap Some (one_meaning μ ν b.1 b'.1 (sym b.0 ∙ b'.0))

-- the next frame passes all checks
Good : Option Meaning → ℕ → List ℕ → ℕ → Type 0
Good told kind fields n = AllByRecursion (Passes told kind fields) (line_faults n)

moved : (told : Option Meaning) (kind kind' n : ℕ) (fields fields' : List ℕ) → kind ∷ fields ≡ kind' ∷ fields' → Good told kind' fields' n → Good told kind fields n
moved told kind kind' n fields fields' e good =
    let k : kind' ≡ kind = cc in
    let f : fields' ≡ fields = cc in
    subst (λ (i : ℕ). Good told i fields n) k (subst (λ (xs : List ℕ). Good told kind' xs n) f good)

head_good : (a b n : ℕ) → Good None 0x01 (two_numbers a b) n
unfolding Good
head_good a b n = (refl, (refl, ((λ z. absurd (omega arith)), ((λ z. absurd (omega arith)), ((λ z. absurd (omega arith)), ((λ z. absurd (omega arith)), tt))))))

logic_small : (l : Logic) → logic_number l ≤ 1
logic_small One = omega arith
logic_small Every = omega arith

step_good : (μ : Meaning) (l : Logic) (n : ℕ) → length μ.graph.links ≡ 0 → μ.graph.steps < 1024 → Good (Some μ) 0x10 (logic_number l ∷ []) n
unfolding Good
step_good μ l n none few = (inr (refl, none), (refl, ((λ z. logic_small l), ((λ z. few), ((λ z. absurd (omega arith)), ((λ z. absurd (omega arith)), tt))))))

link_good : (μ : Meaning) (a b n : ℕ) → length μ.graph.links < 2048 → a < μ.graph.steps → b < μ.graph.steps → Good (Some μ) 0x20 (two_numbers a b) n
unfolding Good
link_good μ a b n few ha hb = (inl refl, (refl, ((λ z. absurd (omega arith)), ((λ z. absurd (omega arith)), ((λ z. few), ((λ z. (omega arith, omega arith)), tt))))))

good : (told told' : Option Meaning) (frames more : List (List ℕ)) (kind n : ℕ) (fields : List ℕ) → Begins frames told → Begins (frames ++ ((kind ∷ fields) ∷ more)) told' → Good told kind fields n
good told None frames more kind n fields b b' = absurd (omega (arith, ap length b'.0, length-append frames ((kind ∷ fields) ∷ more)))
good None (Some ν) frames more kind n fields b b' =
    let all : (kind ∷ fields) ∷ more ≡ frames_of ν = ap (λ (xs : List (List ℕ)). xs ++ ((kind ∷ fields) ∷ more)) (sym b.0) ∙ b'.0 in
    let front : kind ∷ fields ≡ head_frame ν.graph.first ν.graph.last = cc in
    moved None kind 0x01 n fields (two_numbers ν.graph.first ν.graph.last) front (head_good ν.graph.first ν.graph.last n)
good (Some μ) (Some ν) frames more kind n fields b b' =
    let all : frames_of μ ++ ((kind ∷ fields) ∷ more) ≡ frames_of ν = ap (λ (xs : List (List ℕ)). xs ++ ((kind ∷ fields) ∷ more)) (sym b.0) ∙ b'.0 in
    let back : (map step_frame μ.logics ++ map link_frame μ.graph.links) ++ ((kind ∷ fields) ∷ more) ≡ map step_frame ν.logics ++ map link_frame ν.graph.links = cc in
    ⊎_elim
    (λ w. moved (Some μ) kind 0x10 n fields (logic_number w.0 ∷ []) w.1 (step_good μ w.0 n w.2 (omega (arith, w.3, b.1.logic_each, b'.1.logic_each, b'.1.few_steps))))
    (λ w.
    let p = get_or ν.graph.links (length μ.graph.links) (0, 0) in
    let below = b'.1.ends_below (length μ.graph.links) w.1 in
    let same : μ.graph.steps ≡ ν.graph.steps = sym b.1.logic_each ∙ w.0 ∙ b'.1.logic_each in
    moved (Some μ) kind 0x20 n fields (two_numbers p.0 p.1) w.2 (link_good μ p.0 p.1 n (omega (arith, w.1, b'.1.few_links)) (omega (arith, below.0)) (omega (arith, below.1))))
    (next_frame μ.logics ν.logics μ.graph.links ν.graph.links (kind ∷ fields) more back)

-- frames of a table's beginning hold no stray one
pub no_stray : (frames : List (List ℕ)) (told : Option Meaning) (e : PlanFault) → Begins frames told → Stray frames e → ⊥
unfolding Good
no_stray frames told e b s =
    none_first (Passes s.told s.kind s.fields) (line_faults (length s.before + 1)) e
    (good s.told told s.before s.after s.kind (length s.before + 1) s.fields s.begins (sym s.parts ∙ b.0, b.1)) s.faulty

-- two cuts of a list are at one place, or one lies after the other
split : (xs ys : List (List ℕ)) (x y : List ℕ) (more rest : List (List ℕ)) → xs ++ (x ∷ more) ≡ ys ++ (y ∷ rest)
    → ((xs ≡ ys) × (x ≡ y)) ⊎ (((cs : List (List ℕ)) × (ys ≡ xs ++ (x ∷ cs))) ⊎ ((cs : List (List ℕ)) × (xs ≡ ys ++ (y ∷ cs))))
split [] [] x y more rest e = inl (refl, cc)
split [] (b ∷ ys) x y more rest e = inr (inl (ys, cc))
split (a ∷ xs) [] x y more rest e = inr (inr (xs, cc))
split (a ∷ xs) (b ∷ ys) x y more rest e =
    let front : a ≡ b = cc in
    let back : xs ++ (x ∷ more) ≡ ys ++ (y ∷ rest) = cc in
    ⊎_elim
    (λ w. let s = w.0 in inl (cc, w.1))
    (λ v. ⊎_elim (λ w. let s = w.1 in inr (inl (w.0, cc))) (λ w. let s = w.1 in inr (inr (w.0, cc))) v)
    (split xs ys x y more rest back)

-- the first stray frame is one, and what is told of it
pub one_stray : (frames : List (List ℕ)) (d e : PlanFault) → Stray frames d → Stray frames e → d ≡ e
one_stray frames d e s t =
    ⊎_elim
    (λ w. same w.0 w.1)
    (λ v. ⊎_elim (λ w. absurd (no_stray t.before t.told d t.begins (shorter s w.0 t.before w.1))) (λ w. absurd (no_stray s.before s.told e s.begins (shorter t w.0 s.before w.1))) v)
    (split s.before t.before (s.kind ∷ s.fields) (t.kind ∷ t.fields) s.after t.after (sym s.parts ∙ t.parts))
  where
    shorter : {f : PlanFault} (u : Stray frames f) (rest before : List (List ℕ)) → before ≡ u.before ++ ((u.kind ∷ u.fields) ∷ rest) → Stray before f
    shorter u rest before parts = record { before = u.before; kind = u.kind; fields = u.fields; after = rest; parts = parts; told = u.told; begins = u.begins; faulty = u.faulty }

    same : s.before ≡ t.before → s.kind ∷ s.fields ≡ t.kind ∷ t.fields → d ≡ e
    same before frame =
        let kind : t.kind ≡ s.kind = cc in
        let fields : t.fields ≡ s.fields = cc in
        let told = one_beginning s.before t.told s.told (before ∙ t.begins.0, t.begins.1) s.begins in
        let at : Faulty t.told (length s.before + 1) t.kind t.fields e = subst (λ (xs : List (List ℕ)). Faulty t.told (length xs + 1) t.kind t.fields e) (sym before) t.faulty in
        let at_told = subst (λ (o : Option Meaning). Faulty o (length s.before + 1) t.kind t.fields e) told at in
        let at_kind = subst (λ (i : ℕ). Faulty s.told (length s.before + 1) i t.fields e) kind at_told in
        let at_fields = subst (λ (xs : List ℕ). Faulty s.told (length s.before + 1) s.kind xs e) fields at_kind in
        one_first (Passes s.told s.kind s.fields) (line_faults (length s.before + 1)) d e s.faulty at_fields
