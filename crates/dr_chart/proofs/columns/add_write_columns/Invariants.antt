use Rattle.std.proofs.Common.{◌≡◌, ◌++◌, map}
use Rattle.std.specs.List.{flat_map, range_with_len}
use Rattle.dr_chart.specs.Columns.{write_column}
use Rattle.dr_chart.proofs.columns.add_write_columns.Given as goal

abbrev pub invariant-loop-place : goal.invariant-loop-place
invariant-loop-place l = l.found.items ≡ l.fn.found.items ++ flat_map (write_column l.asks l.which l.stretch (map (λ row. row.now) l.rows)) (range_with_len 0 l.place)
