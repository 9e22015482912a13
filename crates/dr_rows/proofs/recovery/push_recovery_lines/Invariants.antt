use Rattle.std.proofs.Common.{◌≡◌, ◌++◌}
use Rattle.std.specs.List.{flat_map, range_with_len}
use Rattle.dr_rows.specs.Refusals.{recovery_line}
use Rattle.dr_rows.proofs.recovery.push_recovery_lines.Given as goal

abbrev pub invariant-loop-place : goal.invariant-loop-place
invariant-loop-place l = l.text ≡ l.fn.text ++ flat_map (recovery_line l.before l.lines l.rows) (range_with_len 0 l.place)
