use Rattle.std.proofs.Common.{◌≡◌, map}
use Rattle.std.specs.List.{flat_map, range_with_len}
use Rattle.dr_chart.specs.Columns.{columns_in}
use Rattle.dr_chart.proofs.columns.columns.Given as goal

abbrev pub invariant-loop-stretch : goal.invariant-loop-stretch
invariant-loop-stretch l = l.found.items ≡ flat_map (columns_in l.asks l.which (map (λ row. row.now) l.rows)) (range_with_len 0 l.stretch)
