use Rattle.std.proofs.Common.{◌≡◌, ℕ, List, ◌+◌, ◌∷◌, [], ◌++◌, length, refl, ap, ap₂, ◌∙◌, append_assoc, arith}
use Rattle.std.proofs.lemmas.Slice.{take-put_mid}
use Rattle.lines.proofs.line.Line.word.Goals as goal

pub returns-clause-written : goal.returns-clause-written
returns-clause-written c =
    let here = c.self.inside in
    let word = c.args.word.now in
    let copied : c.copy_from_slice.new.self ≡ word = c.copy_from_slice.ensures.after ∙ c.as_bytes.ensures.value in
    let stands = take-put_mid here.len _ here.bytes c.copy_from_slice.new.self (here.len + length word) (omega (arith, ap length copied)) (omega (arith, c.self.told, c.requires.room, c.self.invariant)) in
    let whole : c.put.new.self ≡ (c.args.self.now ++ word) ++ c.as_byte.result ∷ [] =
    c.put.ensures ∙ ap (λ (xs : List ℕ). xs ++ c.as_byte.result ∷ []) (stands ∙ ap₂ ◌++◌ c.self.view_is copied) in
    rw (whole, c.as_byte.ensures, append_assoc) refl
