use Rattle.std.proofs.Common.{take}
use Rattle.dr_sweep.specs.Parts.{Adds, AreSwept}
use Rattle.dr_sweep.proofs.walk.add_parts.Given as goal

abbrev pub invariant-loop-part : goal.invariant-loop-part
invariant-loop-part g l = Adds (AreSwept l.plan (take l.part-index l.parts)) l.fn.rows.items l.rows.items
