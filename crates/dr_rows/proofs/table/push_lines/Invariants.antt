use Rattle.std.proofs.Common.{◌≡◌, ◌++◌, take}
use Rattle.std.specs.List.{flat_map}
use Rattle.dr_rows.specs.Table.{table_line}
use Rattle.dr_rows.proofs.table.push_lines.Given as goal

abbrev pub invariant-loop-cells : goal.invariant-loop-cells
invariant-loop-cells l = l.text ≡ l.fn.text ++ flat_map (table_line l.layout l.rows) (take l.cells-index l.rows)
