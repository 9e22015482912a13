use Rattle.std.proofs.Common.{◌≡◌, map, take}
use Rattle.std.specs.List.{list_any}
use Rattle.dr_rows.specs.Outcome.{is_broken}
use Rattle.dr_chart.proofs.columns.any_broken.Given as goal

abbrev pub invariant-loop-row : goal.invariant-loop-row
invariant-loop-row l = l.broken ≡ list_any (is_broken l.which) (map (λ row. row.now) (take l.row-index l.rows))
