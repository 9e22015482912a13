use Rattle.std.proofs.Common.{◌≡◌, ◌++◌}
use Rattle.std.specs.List.{flat_map, range_with_len}
use Rattle.dr_rows.specs.Line.{use_line}
use Rattle.dr_rows.proofs.line.push_row.Given as goal

abbrev pub invariant-loop-which : goal.invariant-loop-which
invariant-loop-which l = l.text ≡ l.fn.text ++ flat_map (use_line l.plan l.row) (range_with_len 0 l.which)
