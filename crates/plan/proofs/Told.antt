-- The frames of a text, taken by a draft one after the other.
use Rattle.std.proofs.Common.{◌≡◌, ℕ, ◌+◌, ◌<◌, ◌≤◌, ◌⊎◌, List, ◌∷◌, ◌++◌, map, length, get_or, take, drop, is_ok, Ok, Err, vec_items, Option, Result, sym, refl, ap, ◌∙◌, subst, inl, inr, ⊎_elim, arith, MatchResult}
use Rattle.std.proofs.lemmas.List.{length-map, length-take-le, map-append, take-append-drop, drop_more}
use Rattle.model.specs.Meaning.{Meaning}
use Rattle.text.proofs.Answered.{read_is_spelled}
use Rattle.text.specs.Decoded.{bytes_of, frames_in, Numbered, Read}
use Rattle.text.specs.Spelling.{Spells}
use Rattle.text.specs.declared.decoding.Frames.{Frames}
use Rattle.text.specs.declared.faults.TextFault.{TextFault}
use Rattle.text.specs.declared.lines.Frame.{Frame}
use Rattle.plan.specs.Checks.{Begun, written, Faulty, Unfinished}
use Rattle.plan.specs.Drafts.{told_by, Finishes}
use Rattle.plan.specs.Reading.{Stray, Refused}
use Rattle.plan.specs.Table.{meaning_of}
use Rattle.plan.specs.Writing.{frames_of}
use Rattle.plan.specs.declared.faults.PlanFault.{PlanFault}
use Rattle.plan.specs.declared.faults.PlanFault.TheVariants.{Text, Memory}
use Rattle.plan.specs.declared.gateway.GatewayTable.{GatewayTable}
use Rattle.plan.specs.declared.gateway.drafts.Draft.{Draft}
use Rattle.plan.proofs.Drafted.{begun}

pub stray : (frames : List Frame) (i : ℕ) (f : Frame) (told : Option Meaning) (e : PlanFault) → i < length frames → f ≡ get_or frames i f → Numbered frames → written told ≡ map bytes_of (take i frames) → Begun told → Faulty told f.line f.kind (vec_items f.fields) e → Stray (map bytes_of frames) e
stray frames i f told e h is numbered begins within faulty =
    let front = take i frames in
    let rest = drop (i + 1) frames in
    let size : length (map bytes_of front) ≡ i = length-map front bytes_of ∙ length-take-le i frames (omega arith) in
    let line : f.line ≡ length (map bytes_of front) + 1 = ap (λ (g : Frame). g.line) is ∙ numbered i f h ∙ ap (λ n. n + 1) (sym size) in
    record {
      before = map bytes_of front;
      kind = f.kind;
      fields = vec_items f.fields;
      after = map bytes_of rest;
      parts = ap (map bytes_of) (sym (take-append-drop i frames)) ∙ ap (λ (xs : List Frame). map bytes_of (front ++ xs)) (drop_more frames i f h) ∙ ap (λ (g : Frame). map bytes_of (front ++ (g ∷ rest))) (sym is) ∙ map-append bytes_of front (f ∷ rest);
      told = told;
      begins = (sym begins, within);
      faulty = subst (λ (n : ℕ). Faulty told n f.kind (vec_items f.fields) e) line faulty;
    }

pub finished : (text : List ℕ) (out : Frames) (d : Draft) (n : ℕ) (r : Result GatewayTable PlanFault) → Read text out → out.end ≡ Ok tt → written (told_by d) ≡ frames_in out → n ≡ length (vec_items out.frames) → Finishes d n r → MatchResult r (λ t. (length text ≤ 65535) × Spells text (frames_of (meaning_of t))) (λ e. Refused text e)
finished text out d n (Ok t) read ok all lines end =
    (read.short, subst (λ (fs : List (List ℕ)). Spells text fs) (sym all ∙ ap written end) (read_is_spelled text out read (ap is_ok ok)))
finished text out d n (Err e) read ok all lines end =
    inr (inl (
      out,
      read,
      inr (inr (record {
        told = told_by d;
        begins = (sym all, begun d);
        ends = ok;
        faulty = subst (λ (m : ℕ). Unfinished (told_by d) m e) (lines ∙ sym (length-map (vec_items out.frames) bytes_of)) end;
      })),
    ))

pub line_refused : (text : List ℕ) (out : Frames) (fs : List Frame) (e : PlanFault) → Read text out → fs ≡ vec_items out.frames → Stray (map bytes_of fs) e ⊎ (e ≡ Memory) → Refused text e
line_refused text out fs e read same =
    ⊎_elim
    (λ (s : Stray (map bytes_of fs) e). inr (inl (out, read, inl (subst (λ (xs : List Frame). Stray (map bytes_of xs) e) same s))))
    (λ (m : e ≡ Memory). inr (inr m))

pub spelling_refused : (text : List ℕ) (out : Frames) (fs : List Frame) (d : Draft) (t : TextFault) → Read text out → fs ≡ vec_items out.frames → out.end ≡ Err t → written (told_by d) ≡ map bytes_of fs → Refused text (Text t)
spelling_refused text out fs d t read same stops all =
    inr (inl (out, read, inr (inl (record { told = told_by d; begins = (ap (map bytes_of) (sym same) ∙ sym all, begun d); fault = t; stops = stops; carried = refl }))))
