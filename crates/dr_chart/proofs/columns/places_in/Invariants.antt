use Rattle.std.proofs.Common.{◌≡◌, map, take}
use Rattle.dr_chart.specs.Columns.{places_in}
use Rattle.dr_chart.proofs.columns.places_in.Given as goal

abbrev pub invariant-loop-row : goal.invariant-loop-row
invariant-loop-row l = l.places ≡ places_in (map (λ row. row.now) (take l.row-index l.rows))
