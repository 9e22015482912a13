use Rattle.std.proofs.Common.{◌≡◌, map, take}
use Rattle.dr_chart.specs.Columns.{rows_in}
use Rattle.dr_chart.proofs.columns.rows_in.Given as goal

abbrev pub invariant-loop-row : goal.invariant-loop-row
invariant-loop-row l = map (λ row. row.now) l.found.items ≡ rows_in l.stretch (map (λ row. row.now) (take l.row-index l.rows))
