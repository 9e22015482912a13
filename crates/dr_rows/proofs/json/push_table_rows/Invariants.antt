use Rattle.std.proofs.Common.{◌≡◌, ◌++◌, take}
use Rattle.std.specs.List.{flat_map}
use Rattle.dr_rows.specs.Json.{table_item}
use Rattle.dr_rows.proofs.json.push_table_rows.Given as goal

abbrev pub invariant-loop-cells : goal.invariant-loop-cells
invariant-loop-cells l = l.items ≡ l.fn.items ++ flat_map table_item (take l.cells-index l.rows)
