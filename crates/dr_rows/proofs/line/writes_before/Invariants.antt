use Rattle.std.proofs.Common.{◌≡◌, ◌*◌, ◌-◌, ◌^◌, ◌≤◌, take}
use Rattle.std.specs.List.{sum}
use Rattle.dr_rows.proofs.line.writes_before.Given as goal

abbrev pub invariant-loop-count : goal.invariant-loop-count
invariant-loop-count l = (l.sum ≡ sum (take l.count-index l.writes)) × (l.sum ≤ l.count-index * (2 ^ 32 - 1))
