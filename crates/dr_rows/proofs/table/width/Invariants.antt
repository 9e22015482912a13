use Rattle.std.proofs.Common.{◌≡◌, take}
use Rattle.dr_rows.specs.Table.{width}
use Rattle.dr_rows.proofs.table.width.Given as goal

abbrev pub invariant-loop-cells : goal.invariant-loop-cells
invariant-loop-cells l = l.widest ≡ width (take l.cells-index l.rows) l.column
