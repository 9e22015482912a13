use Rattle.std.proofs.Common.{◌≡◌, map, drop}
use Rattle.std.specs.Prelude.{find}
use Rattle.dr_rows.specs.Kinds.{loses_most}
use Rattle.dr_rows.proofs.disasters.first_worst.Given as goal

abbrev pub invariant-loop-row : goal.invariant-loop-row
invariant-loop-row l = find (loses_most l.which l.most) (map (λ row. row.now) (drop l.row-index l.rows)) ≡ find (loses_most l.which l.most) (map (λ row. row.now) l.rows)
