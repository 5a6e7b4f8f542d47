-- The refusal that each fault is told by.
use Rattle.std.specs.Prelude.{None, Option}
use Rattle.model.specs.declared.refusals.Refusal.{Refusal}
use Rattle.plan.specs.Refused.{plan_refusal}
use Rattle.search.specs.Shapes.{shape_refusal}
use Rattle.listing.specs.declared.faults.BrowserFault.{BrowserFault}
use Rattle.listing.specs.declared.faults.BrowserFault.TheVariants.{Table, Shape, Memory}

abbrev pub browser_refusal : BrowserFault → Option Refusal
browser_refusal (Table e) = plan_refusal e
browser_refusal (Shape e) = shape_refusal e
browser_refusal Memory = None
