use Rattle.std.proofs.Common.{◌≡◌, ◌++◌, map}
use Rattle.std.specs.List.{range_with_len}
use Rattle.dr_rows.specs.Table.{column_name}
use Rattle.dr_rows.proofs.compare.lettered.Given as goal

abbrev pub invariant-loop-column : goal.invariant-loop-column
invariant-loop-column l = l.cells ≡ map (λ column. column_name column ++ l.letter) (range_with_len 0 l.column)
