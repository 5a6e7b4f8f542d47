use Rattle.std.proofs.Common.{refl}
use mathlib.Core.HLevel.{⊥_prop}
use mathlib.Core.Logic.{∥∥₁_elim}
use Rattle.search.specs.declared.shapes.ShapeFault.TheVariants.{EntersFirst, LeavesLast, NotReached, NoWayOut, Memory}
use Rattle.search.specs.Laws.{SoundHasNone}
use Rattle.search.proofs.laws.sound_has_none.Goals as goal

no_fault : SoundHasNone
no_fault P (EntersFirst l) s x = absurd (s.none_in l.0 x.0 x.1)
no_fault P (LeavesLast l) s x = absurd (s.none_out l.0 x.1 x.2)
no_fault P (NotReached t) s x = absurd (∥∥₁_elim (s.between t.0 x.2) ⊥_prop (λ p. x.3 ∣ (p.0, p.2) ∣₁))
no_fault P (NoWayOut t) s x = absurd (∥∥₁_elim (s.between t.0 x.3) ⊥_prop (λ p. x.4 ∣ (p.1, p.3) ∣₁))
no_fault P Memory s x = refl

pub returns : goal.returns
returns c = no_fault
