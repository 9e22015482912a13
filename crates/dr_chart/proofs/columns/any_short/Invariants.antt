use Rattle.std.proofs.Common.{◌≡◌, map, take}
use Rattle.std.specs.List.{list_any}
use Rattle.dr_rows.specs.Outcome.{lacks_members}
use Rattle.dr_chart.proofs.columns.any_short.Given as goal

abbrev pub invariant-loop-row : goal.invariant-loop-row
invariant-loop-row l = l.short ≡ list_any lacks_members (map (λ row. row.now) (take l.row-index l.rows))
