-- A text has one answer, and what was written is read.
use Rattle.std.proofs.Common.{◌≡◌, ℕ, ◌≤◌, List, length, Some, None, Ok, Err, Option, Result, sym, refl, ap, ◌∙◌, subst, ⊎_elim, arith}
use Rattle.model.specs.Meaning.{Meaning, Limits}
use Rattle.text.proofs.Answered.{spelling_tells, spelled_is_read, one_answer}
use Rattle.text.specs.Decoded.{frames_in, Ended, WholeFault}
use Rattle.text.specs.Spelling.{Spells}
use Rattle.text.specs.declared.decoding.Frames.{Frames}
use Rattle.text.specs.declared.faults.TextFault.{TextFault}
use Rattle.text.specs.declared.faults.TextFault.TheVariants.{TooLong, NoLineFeed, EmptyLine, NoDigit, OddDigits, Memory as TextMemory}
use Rattle.plan.specs.Checks.{Bounded, Begins, Completes, Unfinished, end_faults}
use Rattle.plan.specs.Laws.{WritingTells, WrittenIsRead, OneReading}
use Rattle.plan.specs.Reading.{Stray, CutShort, Unmade, FaultIn, Refused, Reading, GivesBack}
use Rattle.plan.specs.Refused.{plan_refusal}
use Rattle.plan.specs.Writing.{frames_of}
use Rattle.plan.specs.declared.faults.PlanFault.{PlanFault}
use Rattle.plan.specs.declared.faults.PlanFault.TheVariants.{Text, Memory}
use Rattle.plan.proofs.Ended.{ended}
use Rattle.plan.proofs.Following.{one_first, none_first, one_beginning, no_stray, one_stray}
use Rattle.plan.proofs.Unwritten.{one_meaning, all_frames}

-- a plan keeps the bounds of a table in the making
bounded : (μ : Meaning) → Limits μ → Bounded μ
bounded μ h = record { few_steps = h.few_steps; few_links = h.few_links; ends_below = h.ends_below; logic_each = h.logic_each }

pub writing_tells : WritingTells
writing_tells μ ν hμ hν e = one_meaning μ ν (bounded μ hμ) (bounded ν hν) e

never : (t : TextFault) (end : Result (Unit {0}) TextFault) → end ≡ Ok tt → end ≡ Err t → ⊥
never t end p q = let z : ◌≡◌ {A = ℕ} 0 1 = cc in omega arith

-- there is no fault in the frames of a plan
no_fault : (μ : Meaning) (frames : List (List ℕ)) (end : Result (Unit {0}) TextFault) (e : PlanFault) → Limits μ → frames ≡ frames_of μ → end ≡ Ok tt → FaultIn frames end e → ⊥
no_fault μ frames end e h whole ok =
    let begins : Begins frames (Some μ) = (whole, bounded μ h) in
    ⊎_elim
    (λ (s : Stray frames e). no_stray frames (Some μ) e begins s)
    (λ v. ⊎_elim
    (λ (s : CutShort frames end e). never s.fault end ok s.stops)
    (λ (s : Unmade frames end e).
    none_first (Completes (Some μ)) (end_faults (length frames)) e
    ((h.some_steps, h.some_links), ((h.first_below, h.last_below, h.apart), tt))
    (subst (λ (o : Option Meaning). Unfinished o (length frames) e) (one_beginning frames s.told (Some μ) s.begins begins) s.faulty))
    v)

-- the fault in some frames is one
one_fault : (frames : List (List ℕ)) (end : Result (Unit {0}) TextFault) (d e : PlanFault) → FaultIn frames end d → FaultIn frames end e → d ≡ e
one_fault frames end d e x y =
    ⊎_elim
    (λ (s : Stray frames d). ⊎_elim (λ (t : Stray frames e). one_stray frames d e s t) (λ v. ⊎_elim (λ (t : CutShort frames end e). absurd (no_stray frames t.told d t.begins s)) (λ (t : Unmade frames end e). absurd (no_stray frames t.told d t.begins s)) v) y)
    (λ u. ⊎_elim
    (λ (s : CutShort frames end d).
    let S = s.stops in
    let C = s.carried in
    ⊎_elim (λ (t : Stray frames e). absurd (no_stray frames s.told e s.begins t))
    (λ v. ⊎_elim (λ (t : CutShort frames end e). let S' = t.stops in let C' = t.carried in cc) (λ (t : Unmade frames end e). absurd (never s.fault end t.ends S)) v) y)
    (λ (s : Unmade frames end d).
    ⊎_elim (λ (t : Stray frames e). absurd (no_stray frames s.told e s.begins t))
    (λ v. ⊎_elim (λ (t : CutShort frames end e). absurd (never t.fault end s.ends t.stops))
    (λ (t : Unmade frames end e).
    one_first (Completes s.told) (end_faults (length frames)) d e s.faulty
    (subst (λ (o : Option Meaning). Unfinished o (length frames) e) (one_beginning frames t.told s.told t.begins s.begins) t.faulty))
    v) y)
    u)
    x

not_whole : (text : List ℕ) (t : TextFault) → length text ≤ 65535 → Ended text → WholeFault text t → ⊥
not_whole text TooLong short end f = omega arith
not_whole text (NoLineFeed line) short end f = f.2 (end f.1)
not_whole text (EmptyLine line) short end f = f
not_whole text (NoDigit line column) short end f = f
not_whole text (OddDigits line) short end f = f
not_whole text TextMemory short end f = f

-- a text that writes a plan is not refused, unless memory is wanting
not_refused : (text : List ℕ) (μ : Meaning) (e : PlanFault) → Limits μ → length text ≤ 65535 → Spells text (frames_of μ) → Refused text e → plan_refusal e ≡ None
not_refused text μ e h short spells =
    ⊎_elim
    (λ w. ⊎_elim
    (λ (f : WholeFault text w.0). absurd (not_whole text w.0 short (ended text _ _ spells) f))
    (λ m. ap plan_refusal w.1 ∙ ap (λ (t : TextFault). plan_refusal (Text t)) m.0)
    w.2)
    (λ v. ⊎_elim
    (λ w.
    let out = w.0 in
    let all = spelled_is_read text (frames_of μ) (all_frames μ h) spells out w.1 in
    absurd (no_fault μ (frames_in out) out.end e h all.0 all.1 w.2))
    (λ (m : e ≡ Memory). ap plan_refusal m)
    v)

pub written_is_read : WrittenIsRead
written_is_read text before after (Ok x) reads μ h short spells =
    writing_tells after μ reads.1 h (spelling_tells text (frames_of after) (frames_of μ) (all_frames after reads.1) (all_frames μ h) reads.2 spells)
written_is_read text before after (Err e) reads μ h short spells = not_refused text μ e h short spells reads.1

-- what is told of a text that is turned away is one
one_refusal : (text : List ℕ) (d e : PlanFault) → (plan_refusal d ≡ None → ⊥) → (plan_refusal e ≡ None → ⊥) → Refused text d → Refused text e → d ≡ e
one_refusal text d e nd ne x y =
    ⊎_elim
    (λ u. ⊎_elim
    (λ v. u.1 ∙ ap Text (one_answer text (Err u.0) (Err v.0) u.2 v.2 (held d u.0 nd u.1) (held e v.0 ne v.1)) ∙ sym v.1)
    (λ v. ⊎_elim (λ w. absurd (one_answer text (Err u.0) (Ok w.0) u.2 w.1 (held d u.0 nd u.1) (other w.0))) (λ (m : e ≡ Memory). absurd (ne (ap plan_refusal m))) v)
    y)
    (λ u. ⊎_elim
    (λ w. ⊎_elim
    (λ v. absurd (one_answer text (Err v.0) (Ok w.0) v.2 w.1 (held e v.0 ne v.1) (other w.0)))
    (λ v. ⊎_elim
    (λ z.
    let same = one_answer text (Ok w.0) (Ok z.0) w.1 z.1 (other w.0) (other z.0) in
    one_fault (frames_in z.0) z.0.end d e
    (subst (λ (end : Result (Unit {0}) TextFault). FaultIn (frames_in z.0) end d) same.1 (subst (λ (fs : List (List ℕ)). FaultIn fs w.0.end d) same.0 w.2))
    z.2)
    (λ (m : e ≡ Memory). absurd (ne (ap plan_refusal m))) v)
    y)
    (λ (m : d ≡ Memory). absurd (nd (ap plan_refusal m))) u)
    x
  where
    held : (f : PlanFault) (t : TextFault) → (plan_refusal f ≡ None → ⊥) → f ≡ Text t → ◌≡◌ {A = Result Frames TextFault} (Err t) (Err TextMemory) → ⊥
    held f t some is m =
        let same : t ≡ TextMemory = cc in
        some (ap plan_refusal is ∙ ap (λ (u : TextFault). plan_refusal (Text u)) same)

    other : (out : Frames) → ◌≡◌ {A = Result Frames TextFault} (Ok out) (Err TextMemory) → ⊥
    other out m = let z : ◌≡◌ {A = ℕ} 0 1 = cc in omega arith

pub one_reading : OneReading
one_reading text before after after' (Ok x) (Ok y) a b m n = (refl, written_is_read text before after (Ok x) a after' b.1 b.0 b.2)
one_reading text before after after' (Ok x) (Err e) a b m n = absurd (n (written_is_read text before after' (Err e) b after a.1 a.0 a.2))
one_reading text before after after' (Err d) (Ok y) a b m n = absurd (m (written_is_read text before after (Err d) a after' b.1 b.0 b.2))
one_reading text before after after' (Err d) (Err e) a b m n = (ap Err (one_refusal text d e m n a.1 b.1), a.0 ∙ sym b.0)

-- a refusal leaves the meaning
pub refused : (text : List ℕ) (before : Meaning) (r : Result (Unit {0}) PlanFault) (e : PlanFault) → r ≡ Err e → Refused text e → Reading text before r before × GivesBack text r before
refused text before r e is why =
    let reads : Reading text before r before = subst (λ (q : Result (Unit {0}) PlanFault). Reading text before q before) (sym is) (refl, why) in
    (reads, written_is_read text before before r reads)
