use Rattle.std.proofs.Common.{◌≡◌, map, take}
use Rattle.text.specs.Decoded.{bytes_of}
use Rattle.plan.specs.Checks.{written}
use Rattle.plan.specs.Drafts.{told_by}
use Rattle.plan.proofs.gateway.reading.draft_of.Given as goal

abbrev pub invariant-loop-frame : goal.invariant-loop-frame
invariant-loop-frame l = written (told_by l.draft) ≡ map bytes_of (take l.frame-index l.frames)
