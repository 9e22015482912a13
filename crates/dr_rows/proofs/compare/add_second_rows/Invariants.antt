use Rattle.std.proofs.Common.{◌≡◌, ◌++◌}
use Rattle.std.specs.List.{flat_map, range_with_len}
use Rattle.dr_rows.specs.Compare.{only_second}
use Rattle.dr_rows.proofs.compare.add_second_rows.Given as goal

abbrev pub invariant-loop-which : goal.invariant-loop-which
invariant-loop-which l = l.table.items ≡ l.fn.table.items ++ flat_map (only_second l.first l.second l.disaster) (range_with_len 0 l.which)
