use Rattle.std.proofs.Common.{◌≡◌, ◌++◌}
use Rattle.std.specs.List.{flat_map, range_with_len}
use Rattle.dr_rows.specs.Compare.{second_rows}
use Rattle.dr_rows.proofs.compare.add_all_second.Given as goal

abbrev pub invariant-loop-disaster : goal.invariant-loop-disaster
invariant-loop-disaster l = l.table.items ≡ l.fn.table.items ++ flat_map (second_rows l.first l.second) (range_with_len 0 l.disaster)
