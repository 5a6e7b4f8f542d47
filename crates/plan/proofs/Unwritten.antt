-- Frames tell what they were written from.
use Rattle.std.proofs.Common.{◌≡◌, ℕ, ◌/◌, ◌%◌, ◌<◌, ◌⊎◌, List, [], ◌∷◌, ◌++◌, map, length, get_or, sym, refl, ap, ◌∙◌, inl, inr, ⊎_elim, arith}
use Rattle.std.proofs.ByRecursion.{All-append, All-from_get_or, All-map}
use Rattle.std.specs.List.{AllByRecursion}
use Rattle.model.specs.Meaning.{Meaning, Limits}
use Rattle.model.specs.declared.numbers.Logic.{Logic}
use Rattle.model.specs.declared.numbers.Logic.TheVariants.{One, All as Every}
use Rattle.text.specs.Decoded.{IsFrame}
use Rattle.plan.specs.Checks.{Bounded}
use Rattle.plan.specs.Writing.{two_numbers, head_frame, step_frame, link_frame, frames_of}

two_same : (a b c d : ℕ) → two_numbers a b ≡ two_numbers c d → (a ≡ c) × (b ≡ d)
two_same a b c d e =
    let h : a / 256 ≡ c / 256 = cc in
    let l : a % 256 ≡ c % 256 = cc in
    let h' : b / 256 ≡ d / 256 = cc in
    let l' : b % 256 ≡ d % 256 = cc in
    (omega arith, omega arith)

step_same : (k l : Logic) → step_frame k ≡ step_frame l → k ≡ l
step_same One One e = refl
step_same One Every e = let z : ◌≡◌ {A = ℕ} 0 1 = cc in absurd (omega arith)
step_same Every One e = let z : ◌≡◌ {A = ℕ} 1 0 = cc in absurd (omega arith)
step_same Every Every e = refl

pair_same : (p q : ℕ × ℕ) → (p.0 ≡ q.0) × (p.1 ≡ q.1) → p ≡ q
pair_same p q e = ap (λ n. (n, p.1)) e.0 ∙ ap (λ n. (q.0, n)) e.1

link_same : (p q : ℕ × ℕ) → link_frame p ≡ link_frame q → p ≡ q
link_same p q e =
    let numbers : two_numbers p.0 p.1 ≡ two_numbers q.0 q.1 = cc in
    pair_same p q (two_same p.0 p.1 q.0 q.1 numbers)

no_step_link : (l : Logic) (p : ℕ × ℕ) → step_frame l ≡ link_frame p → ⊥
no_step_link l p e = let z : ◌≡◌ {A = ℕ} 0x10 0x20 = cc in omega arith

links_same : (ls ms : List (ℕ × ℕ)) → map link_frame ls ≡ map link_frame ms → ls ≡ ms
links_same [] [] e = refl
links_same [] (m ∷ ms) e = absurd (omega (arith, ap length e))
links_same (l ∷ ls) [] e = absurd (omega (arith, ap length e))
links_same (l ∷ ls) (m ∷ ms) e =
    let front : link_frame l ≡ link_frame m = cc in
    let back : map link_frame ls ≡ map link_frame ms = cc in
    ap (λ p. p ∷ ls) (link_same l m front) ∙ ap (λ ps. m ∷ ps) (links_same ls ms back)

body_same : (ks js : List Logic) (ls ms : List (ℕ × ℕ)) → map step_frame ks ++ map link_frame ls ≡ map step_frame js ++ map link_frame ms → (ks ≡ js) × (ls ≡ ms)
body_same [] [] ls ms e = (refl, links_same ls ms e)
body_same [] (b ∷ js) [] ms e = absurd (omega (arith, ap length e))
body_same [] (b ∷ js) (l ∷ ls) ms e = let z : step_frame b ≡ link_frame l = cc in absurd (no_step_link b l z)
body_same (a ∷ ks) [] ls [] e = absurd (omega (arith, ap length e))
body_same (a ∷ ks) [] ls (m ∷ ms) e = let z : step_frame a ≡ link_frame m = cc in absurd (no_step_link a m z)
body_same (a ∷ ks) (b ∷ js) ls ms e =
    let front : step_frame a ≡ step_frame b = cc in
    let back : map step_frame ks ++ map link_frame ls ≡ map step_frame js ++ map link_frame ms = cc in
    let w = body_same ks js ls ms back in
    (ap (λ k. k ∷ ks) (step_same a b front) ∙ ap (λ ks. b ∷ ks) w.0, w.1)

of_parts : ℕ → List (ℕ × ℕ) → ℕ → ℕ → List Logic → Meaning
of_parts n links first last logics = record { graph = record { steps = n; links = links; first = first; last = last }; logics = logics }

-- what frames were written from is determined
pub one_meaning : (μ ν : Meaning) → Bounded μ → Bounded ν → frames_of μ ≡ frames_of ν → μ ≡ ν
unfolding of_parts
one_meaning μ ν bμ bν e =
    let front : head_frame μ.graph.first μ.graph.last ≡ head_frame ν.graph.first ν.graph.last = cc in
    let back : map step_frame μ.logics ++ map link_frame μ.graph.links ≡ map step_frame ν.logics ++ map link_frame ν.graph.links = cc in
    let numbers : two_numbers μ.graph.first μ.graph.last ≡ two_numbers ν.graph.first ν.graph.last = cc in
    let h = two_same μ.graph.first μ.graph.last ν.graph.first ν.graph.last numbers in
    let w = body_same μ.logics ν.logics μ.graph.links ν.graph.links back in
    let n : μ.graph.steps ≡ ν.graph.steps = sym bμ.logic_each ∙ ap length w.0 ∙ bν.logic_each in
    ap (λ i. of_parts i μ.graph.links μ.graph.first μ.graph.last μ.logics) n
    ∙ ap (λ ls. of_parts ν.graph.steps ls μ.graph.first μ.graph.last μ.logics) w.1
    ∙ ap (λ i. of_parts ν.graph.steps ν.graph.links i μ.graph.last μ.logics) h.0
    ∙ ap (λ i. of_parts ν.graph.steps ν.graph.links ν.graph.first i μ.logics) h.1
    ∙ ap (λ ks. of_parts ν.graph.steps ν.graph.links ν.graph.first ν.graph.last ks) w.0

-- the frame after some of a table's steps and links is its next step or its next link
next_link : (ls ms : List (ℕ × ℕ)) (x : List ℕ) (more : List (List ℕ)) → map link_frame ls ++ (x ∷ more) ≡ map link_frame ms → (length ls < length ms) × (x ≡ link_frame (get_or ms (length ls) (0, 0)))
next_link [] [] x more e = absurd (omega (arith, ap length e))
next_link [] (m ∷ ms) x more e = (omega arith, cc)
next_link (l ∷ ls) [] x more e = absurd (omega (arith, ap length e))
next_link (l ∷ ls) (m ∷ ms) x more e =
    let back : map link_frame ls ++ (x ∷ more) ≡ map link_frame ms = cc in
    let w = next_link ls ms x more back in
    (omega (arith, w.0), w.1)

pub next_frame : (ks js : List Logic) (ls ms : List (ℕ × ℕ)) (x : List ℕ) (more : List (List ℕ)) → (map step_frame ks ++ map link_frame ls) ++ (x ∷ more) ≡ map step_frame js ++ map link_frame ms
    → ((l : Logic) × (x ≡ step_frame l) × (length ls ≡ 0) × (length ks < length js)) ⊎ ((length ks ≡ length js) × (length ls < length ms) × (x ≡ link_frame (get_or ms (length ls) (0, 0))))
next_frame [] [] ls ms x more e = let w = next_link ls ms x more e in inr (refl, w.0, w.1)
next_frame [] (b ∷ js) [] ms x more e = inl (b, cc, refl, omega arith)
next_frame [] (b ∷ js) (l ∷ ls) ms x more e = let z : step_frame b ≡ link_frame l = cc in absurd (no_step_link b l z)
next_frame (a ∷ ks) [] ls [] x more e = absurd (omega (arith, ap length e))
next_frame (a ∷ ks) [] ls (m ∷ ms) x more e = let z : step_frame a ≡ link_frame m = cc in absurd (no_step_link a m z)
next_frame (a ∷ ks) (b ∷ js) ls ms x more e =
    let back : (map step_frame ks ++ map link_frame ls) ++ (x ∷ more) ≡ map step_frame js ++ map link_frame ms = cc in
    ⊎_elim
    (λ w. inl (w.0, w.1, w.2, omega (arith, w.3)))
    (λ w. inr (omega (arith, w.0), w.1, w.2))
    (next_frame ks js ls ms x more back)

-- the frames of a plan are frames
small : (a b : ℕ) → a < 65536 → b < 65536 → AllByRecursion (λ i. i < 256) (two_numbers a b)
small a b ha hb = (omega arith, (omega arith, (omega arith, (omega arith, tt))))

pub all_frames : (μ : Meaning) → Limits μ → AllByRecursion IsFrame (frames_of μ)
all_frames μ h =
    let n = μ.graph.steps in
    let links : AllByRecursion IsFrame (map link_frame μ.graph.links) = All-map IsFrame link_frame μ.graph.links (All-from_get_or (λ p. IsFrame (link_frame p)) μ.graph.links (0, 0) (λ k lt. let w = h.ends_below k lt in (omega arith, (omega arith, small _ _ (omega (arith, w.0, h.few_steps)) (omega (arith, w.1, h.few_steps)))))) in (
      (omega arith, (omega arith, small μ.graph.first μ.graph.last (omega (arith, h.first_below, h.few_steps)) (omega (arith, h.last_below, h.few_steps)))),
      All-append IsFrame (map step_frame μ.logics) (map link_frame μ.graph.links) (steps μ.logics) links,
    )
  where
    steps : (logics : List Logic) → AllByRecursion IsFrame (map step_frame logics)
    steps [] = tt
    steps (One ∷ logics) = ((omega arith, (omega arith, (omega arith, tt))), steps logics)
    steps (Every ∷ logics) = ((omega arith, (omega arith, (omega arith, tt))), steps logics)
