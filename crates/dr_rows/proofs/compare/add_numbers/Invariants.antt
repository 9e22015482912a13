use Rattle.std.proofs.Common.{◌≡◌, ◌++◌}
use Rattle.std.specs.List.{flat_map, range_with_len}
use Rattle.dr_rows.specs.Compare.{both}
use Rattle.dr_rows.proofs.compare.add_numbers.Given as goal

abbrev pub invariant-loop-column : goal.invariant-loop-column
invariant-loop-column l = l.cells ≡ l.fn.cells ++ flat_map (both l.first l.second) (range_with_len 0 l.column)
