use Rattle.std.proofs.Common.{◌≡◌, ◌≤◌, ◌-◌, drop, length}
use Rattle.dr_model.specs.LineText.{unpadded}
use Rattle.dr_script.proofs.print.unpadded.Given as goal

abbrev pub invariant-loop-start : goal.invariant-loop-start
invariant-loop-start l = record {
  within : l.start ≤ length l.digits;
  same : unpadded (drop l.start l.digits) ≡ unpadded l.digits;
}

abbrev pub decreases-loop-start : goal.decreases-loop-start
decreases-loop-start l = length l.digits - l.start
