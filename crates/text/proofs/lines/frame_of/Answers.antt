use Rattle.std.proofs.Common.{ℕ, ◌<◌, ◌∷◌, length, vec_items, refl, arith, rules}
use Rattle.std.specs.Slice.Iter.{chunks_exact_rest}
use Rattle.text.specs.Spelling.{digits_of}
use Rattle.text.proofs.Steps.{left_digit, none_left}
use Rattle.text.proofs.lines.frame_of.Goals as goal

pub byte-requires : goal.byte-requires
byte-requires c =
    let pair = c.in-Some.pair.now in
    let step = c.in-Some.ensures.steps.1 in
    let digit = λ (k : ℕ) (h : k < length pair). left_digit (digits_of (c.byte-kind.result ∷ vec_items c.loop-pair.fields)) _ pair _ c.args.digits.now k c.loop-pair.invariant.spells step.0 c.requires.digits h in
    (digit 0 (omega (arith, step)), digit 1 (omega (arith, step)))

pub returns : goal.returns
returns c = record {
  numbered = refl;
  spells = none_left (c.byte-kind.result ∷ vec_items c.loop-pair.fields) (chunks_exact_rest c.loop-pair.pair-iterator) c.args.digits.now c.loop-pair.invariant.spells c.requires.even (search rules);
  small = c.loop-pair.invariant.small;
}
