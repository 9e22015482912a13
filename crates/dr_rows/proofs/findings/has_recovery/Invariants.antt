use Rattle.std.proofs.Common.{◌≡◌, take, false}
use Rattle.std.specs.List.{list_any}
use Rattle.dr_rows.specs.Findings.{is_recovery}
use Rattle.dr_rows.proofs.findings.has_recovery.Given as goal

abbrev pub invariant-loop-i : goal.invariant-loop-i
invariant-loop-i l = list_any is_recovery (take l.i l.steps) ≡ false
