use Rattle.std.proofs.Common.{◌≡◌, map, take}
use Rattle.std.specs.List.{list_any}
use Rattle.dr_rows.specs.Places.{differs}
use Rattle.dr_chart.proofs.columns.any_differs.Given as goal

abbrev pub invariant-loop-row : goal.invariant-loop-row
invariant-loop-row l = l.differ ≡ list_any (differs l.asks l.which l.first) (map (λ row. row.now) (take l.row-index l.more))
