use Rattle.std.proofs.Common.{◌≡◌, ◌++◌, map}
use Rattle.std.specs.List.{range_with_len}
use Rattle.dr_rows.specs.Compare.{first_row}
use Rattle.dr_rows.proofs.compare.add_first_rows.Given as goal

abbrev pub invariant-loop-which : goal.invariant-loop-which
invariant-loop-which l = l.table.items ≡ l.fn.table.items ++ map (first_row l.first l.second l.disaster) (range_with_len 0 l.which)
