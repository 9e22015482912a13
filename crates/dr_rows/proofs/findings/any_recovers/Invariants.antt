use Rattle.std.proofs.Common.{◌≡◌, take, false}
use Rattle.std.specs.List.{list_any}
use Rattle.dr_rows.specs.Findings.{recovers}
use Rattle.dr_rows.proofs.findings.any_recovers.Given as goal

abbrev pub invariant-loop-line : goal.invariant-loop-line
invariant-loop-line l = list_any recovers (take l.line-index l.lines) ≡ false
