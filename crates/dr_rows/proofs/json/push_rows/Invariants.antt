use Rattle.std.proofs.Common.{◌≡◌, ◌++◌, take}
use Rattle.std.specs.List.{flat_map}
use Rattle.dr_rows.specs.Json.{row_items}
use Rattle.dr_rows.proofs.json.push_rows.Given as goal

abbrev pub invariant-loop-row : goal.invariant-loop-row
invariant-loop-row l = l.items ≡ l.fn.items ++ flat_map (row_items l.plan) (take l.row-index l.rows)
