-- What a draft has been told.
use Rattle.std.specs.Prelude.{◌≡◌, ℕ, ◌⊎◌, List, [], ◌∷◌, ◌++◌, Some, None, Ok, Err, vec_items, Option, Result}
use Rattle.model.specs.Meaning.{Meaning}
use Rattle.model.specs.declared.numbers.Ends.{Ends}
use Rattle.text.specs.Decoded.{bytes_of}
use Rattle.text.specs.declared.lines.Frame.{Frame}
use Rattle.plan.specs.Checks.{written, Faulty, Unfinished}
use Rattle.plan.specs.Makes.{table_meaning}
use Rattle.plan.specs.Table.{meaning_of}
use Rattle.plan.specs.declared.faults.PlanFault.{PlanFault}
use Rattle.plan.specs.declared.faults.PlanFault.TheVariants.{Memory}
use Rattle.plan.specs.declared.gateway.GatewayTable.{GatewayTable}
use Rattle.plan.specs.declared.gateway.drafts.Draft.{Draft}
use Rattle.plan.specs.declared.gateway.drafts.Draft.TheVariants.{BeforeHead, Steps, Links}
use Rattle.plan.specs.declared.gateway.drafts.Stepped.{Stepped}

-- the meaning so far, of a head with steps and of links
abbrev pub so_far : Stepped → List Ends → Meaning
so_far s links = table_meaning links (vec_items s.logics) s.first.0 s.last.0

abbrev pub told_by : Draft → Option Meaning
told_by (BeforeHead heap) = None
told_by (Steps s) = Some (so_far s [])
told_by (Links l) = Some (so_far l.steps (vec_items l.links))

-- where this was told a frame is taken: a draft is told one frame more, or the frame is faulty, or memory is wanting
abbrev pub Takes : Option Meaning → Frame → Result Draft PlanFault → Type 0
Takes told f (Ok d) = written (told_by d) ≡ written told ++ (bytes_of f ∷ [])
Takes told f (Err e) = Faulty told f.line f.kind (vec_items f.fields) e ⊎ (e ≡ Memory)

-- a draft becomes a table, or something is wrong at the end
abbrev pub Finishes : Draft → ℕ → Result GatewayTable PlanFault → Type 0
Finishes d n (Ok t) = told_by d ≡ Some (meaning_of t)
Finishes d n (Err e) = Unfinished (told_by d) n e
