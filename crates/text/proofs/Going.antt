-- Reading a text line by line: what holds before each line, and at the end.
use Rattle.std.proofs.Common.{◌≡◌, ℕ, suc, ◌+◌, ◌-◌, ◌<◌, ◌≤◌, ◌==◌, min, Bool, Bor, true, false, List, [], ◌∷◌, ◌++◌, map, length, get_or, take, Err, vec_items, Result, Vec, sym, refl, ap, ◌∙◌, subst, ⊎_elim, append_assoc, not-suc-le-zero, arith}
use Rattle.std.proofs.ByRecursion.{All-push}
use Rattle.std.proofs.lemmas.List.{length-append, length_push, map_push, flat_map_more, take_more, take_all, get_or-take, length-take, get_or-append-add, get_or_append_left, get_or_push, nil_from_length}
use Rattle.std.proofs.lemmas.Bool.{eq-eqb, ne_eqb, cond-false, cases_lt, eqb-true}
use denote.Param.Members.{Mut}
use Rattle.std.specs.Fn.{ComputesKey}
use Rattle.std.specs.List.{AllByRecursion, IsFirstMatchOrLen}
use Rattle.std.specs.declared.alloc.Global.{Global}
use Rattle.text.specs.Decoded.{bytes_of, Spelt, IsFrame, Numbered, Ended, Stops, Read}
use Rattle.text.specs.Line.{first_line, LineFault}
use Rattle.text.specs.declared.faults.TextFault.{TextFault}
use Rattle.text.specs.Spelling.{digits_of, spelled, Spells}
use Rattle.text.specs.declared.lines.Frame.{Frame}

abbrev NoFeed : List ℕ → Type 0
NoFeed bs = (k : ℕ) → k < length bs → get_or bs k 0 ≡ 10 → ⊥

-- the line with which the rest of a text begins, and what follows its line feed
pub record Cut (rest line more : List ℕ) : Type 0 where
  pub whole : rest ≡ line ++ (10 ∷ more)
  pub none : NoFeed line

first_line_is : (line more : List ℕ) → NoFeed line → first_line (line ++ (10 ∷ more)) ≡ line
first_line_is [] more none = refl
first_line_is (b ∷ line) more none =
    cond-false _ _ _ (ne_eqb b 10 (none 0 (omega arith)))
    ∙ ap (λ xs. b ∷ xs) (first_line_is line more (λ k l. none (suc k) (omega arith)))

spelled_push : (fs : List (List ℕ)) (f : List ℕ) → spelled (fs ++ f ∷ []) ≡ spelled fs ++ (digits_of f ++ 10 ∷ [])
unfolding spelled
spelled_push fs f = sym (flat_map_more (λ bytes. digits_of bytes ++ 10 ∷ []) [] fs f)

-- the frames so far and the bytes that are left
pub record Going (text : List ℕ) (frames : List Frame) (rest : List ℕ) : Type 0 where
  pub short : length text ≤ 65535
  pub ended : Ended text
  pub begins : text ≡ spelled (map bytes_of frames) ++ rest
  pub good : AllByRecursion IsFrame (map bytes_of frames)
  pub numbered : Numbered frames
  pub left : length frames + length rest ≤ length text

pub at_start : (text : List ℕ) → length text ≤ 65535 → Ended text → (frames : List Frame) → frames ≡ [] → (rest : List ℕ) → rest ≡ text → Going text frames rest
unfolding spelled
at_start text short ended [] e rest er = record {
  short = short;
  ended = ended;
  begins = sym er;
  good = tt;
  numbered = λ k d h. absurd (not-suc-le-zero h);
  left = omega (arith, ap length er);
}
at_start text short ended (f ∷ frames) e rest er = let z : ◌≡◌ {A = ℕ} 1 0 = omega (arith, ap length e) in absurd (omega arith)

grown : (text rest line more : List ℕ) (fs : List (List ℕ)) (g : List ℕ) → text ≡ spelled fs ++ rest → rest ≡ line ++ (10 ∷ more) → digits_of g ≡ line → text ≡ spelled (fs ++ g ∷ []) ++ more
grown text rest line more fs g begins whole spells =
    begins ∙ ap (λ xs. spelled fs ++ xs) (whole ∙ ap (λ xs. xs ++ (10 ∷ more)) (sym spells) ∙ sym (append_assoc (digits_of g) (10 ∷ []) more))
    ∙ sym (append_assoc (spelled fs) (digits_of g ++ 10 ∷ []) more) ∙ ap (λ xs. xs ++ more) (sym (spelled_push fs g))

numbered_push : (frames : List Frame) (f : Frame) → Numbered frames → f.line ≡ length frames + 1 → Numbered (frames ++ f ∷ [])
numbered_push frames f old new k d h =
    ⊎_elim
    (λ (l : k < length frames). ap (λ (g : Frame). g.line) (get_or_append_left frames (f ∷ []) d k l) ∙ old k d l)
    (λ (l : length frames ≤ k).
    let e : length frames ≡ k = omega (arith, length_push frames f) in
    ap (λ (g : Frame). g.line) (get_or_push frames f d k e) ∙ new ∙ ap (λ n. n + 1) e)
    (cases_lt k (length frames))

-- one line more
pub one_more : (text : List ℕ) (frames : List Frame) (rest : List ℕ) → Going text frames rest
    → (line more : List ℕ) → Cut rest line more → 0 < length line → (f : Frame) → Spelt (length frames + 1) line f
    → (frames' : List Frame) → frames' ≡ frames ++ f ∷ [] → Going text frames' more
one_more text frames rest g line more cut some f s frames' ef =
    let push = map_push bytes_of frames f in
    let P : List Frame → Type 0 = λ fs. Going text fs more in
    let at : P (frames ++ f ∷ []) = record {
      short = g.short;
      ended = g.ended;
      begins = grown text rest line more (map bytes_of frames) (bytes_of f) g.begins cut.whole s.spells ∙ ap (λ fs. spelled fs ++ more) (sym push);
      good = subst (λ (xs : List (List ℕ)). AllByRecursion IsFrame xs) (sym push) (All-push IsFrame (map bytes_of frames) (bytes_of f) g.good (omega arith, s.small));
      numbered = numbered_push frames f g.numbered s.numbered;
      left = omega (arith, ap length cut.whole, length-append line (10 ∷ more), length_push frames f, g.left);
    }
    in subst P (sym ef) at

pub stopped : (text : List ℕ) (frames : Vec Frame Global) (rest : List ℕ) (end : Result (Unit {0}) TextFault) → Going text (vec_items frames) rest → Stops (length (vec_items frames) + 1) rest end → Read text (record { frames = frames; end = end })
unfolding Spells
stopped text frames rest end g stops = record {
  short = g.short;
  ended = g.ended;
  front = spelled (map bytes_of (vec_items frames));
  rest = rest;
  parts = g.begins;
  spells = refl;
  frames = g.good;
  numbered = g.numbered;
  stops = stops;
}

pub at_fault : (n : ℕ) (rest line more : List ℕ) (e : TextFault) → Cut rest line more → LineFault n line e → Stops n rest (Err e)
at_fault n rest line more e cut fault = (
  omega (arith, ap length cut.whole, length-append line (10 ∷ more)),
  subst (λ (bs : List ℕ). LineFault n bs e) (sym (ap first_line cut.whole ∙ first_line_is line more cut.none)) fault,
)

-- what is left of an ended text without a line feed is nothing
at_end : (text : List ℕ) (frames : List Frame) (rest : List ℕ) → Going text frames rest → NoFeed rest → rest ≡ []
at_end text frames rest g none =
    let front = spelled (map bytes_of frames) in
    let total : length text ≡ length front + length rest = ap length g.begins ∙ length-append front rest in
    ⊎_elim
    (λ (h : 0 < length rest).
    let n : length text - 1 ≡ length front + (length rest - 1) = omega arith in
    let last = ap (λ i. get_or text i 0) (sym n) ∙ g.ended (omega arith) in
    absurd (none (length rest - 1) (omega arith) (sym (ap (λ xs. get_or xs (length front + (length rest - 1)) 0) g.begins ∙ get_or-append-add front rest (length rest - 1) 0) ∙ last)))
    (λ (h : length rest ≤ 0). nil_from_length rest (omega arith))
    (cases_lt 0 (length rest))

no_feed : (rest : List ℕ) (i : ℕ) → IsFirstMatchOrLen (λ b. b == 10) rest i → (k : ℕ) → k < i → get_or rest k 0 ≡ 10 → ⊥
no_feed rest i first k l e =
    let no : (get_or rest k 0 == 10) ≡ false = first.0 k 0 (omega arith) l in
    let yes : (get_or rest k 0 == 10) ≡ true = eq-eqb (get_or rest k 0) 10 e in
    cc

ends : (x : List ℕ) (i : ℕ) → length x ≡ i + 1 → get_or x i 0 ≡ 10 → x ≡ take i x ++ 10 ∷ []
ends x i len feed = sym (take_all (i + 1) x (omega arith)) ∙ take_more x i 0 (omega arith) ∙ ap (λ b. take i x ++ b ∷ []) feed

-- the piece x of what is left, up to the first line feed, is a line with its line feed
line_of : (rest x more : List ℕ) (i : ℕ) → i < length rest → rest ≡ x ++ more → length x ≡ i + 1 → IsFirstMatchOrLen (λ b. b == 10) rest i → Cut rest (take i x) more
line_of rest x more i within whole len first =
    let same = λ (k : ℕ) (l : k < length x). ap (λ xs. get_or xs k 0) whole ∙ get_or_append_left x more 0 k l in
    let feed : get_or x i 0 ≡ 10 = sym (same i (omega arith)) ∙ eqb-true (get_or rest i 0) 10 (first.1 within 0) in
    record {
      whole = whole ∙ ap (λ xs. xs ++ more) (ends x i len feed) ∙ append_assoc (take i x) (10 ∷ []) more;
      none = λ k l e.
          let small : k < i = omega (arith, length-take i x) in
          no_feed rest i first k small (same k (omega arith) ∙ sym (get_or-take i x k 0 small) ∙ e);
    }

-- a step of the iterator that cuts what is left after its first line feed
pub cut_line : {F : Type 0} {ask : Mut F (Bor ℕ × Unit {0}) Bool} {f f' : F} (text : List ℕ) (frames : List Frame) (rest : List ℕ) → Going text frames rest
    → (x more : List ℕ)
    → (rest ≡ x ++ more) × ((i : ℕ) × (length x ≡ min (i + 1) (length rest)) × ((p : ℕ → Bool) → ComputesKey ask p f → ComputesKey ask p f' × IsFirstMatchOrLen p rest i)) × (0 < length rest)
    → ComputesKey ask (λ b. b == 10) f → Cut rest (take (length x - 1) x) more
cut_line text frames rest g x more step asks =
    let i = step.1.0 in
    let first = (step.1.2 (λ b. b == 10) asks).1 in
    ⊎_elim
    (λ (h : i < length rest).
    let n : i ≡ length x - 1 = omega arith in
    subst (λ (j : ℕ). Cut rest (take j x) more) n (line_of rest x more i h step.0 (omega arith) first))
    (λ (h : length rest ≤ i).
    let nil = at_end text frames rest g (λ k l e. no_feed rest i first k (omega arith) e) in
    absurd (omega (arith, ap length nil)))
    (cases_lt i (length rest))
