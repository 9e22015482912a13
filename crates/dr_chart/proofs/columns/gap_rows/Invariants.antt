use Rattle.std.proofs.Common.{◌≡◌, map, take}
use Rattle.std.specs.Prelude.{filter}
use Rattle.dr_chart.specs.Columns.{is_gap}
use Rattle.dr_chart.proofs.columns.gap_rows.Given as goal

abbrev pub invariant-loop-row : goal.invariant-loop-row
invariant-loop-row l = map (λ row. row.now) l.found.items ≡ filter (λ row. is_gap row.point) (map (λ row. row.now) (take l.row-index l.rows))
