use Rattle.std.proofs.Common.{◌≡◌, map, drop}
use Rattle.std.specs.Prelude.{find}
use Rattle.dr_rows.specs.Findings.{is_finding_for}
use Rattle.dr_rows.proofs.table_cells.first_finding.Given as goal

abbrev pub invariant-loop-row : goal.invariant-loop-row
invariant-loop-row l =
    find (is_finding_for l.plan l.numbers l.which) (map (λ row. row.now) (drop l.row-index l.rows)) ≡ find (is_finding_for l.plan l.numbers l.which) (map (λ row. row.now) l.rows)
