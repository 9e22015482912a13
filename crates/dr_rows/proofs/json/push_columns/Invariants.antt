use Rattle.std.proofs.Common.{◌≡◌, ◌++◌}
use Rattle.std.specs.List.{flat_map, range_with_len}
use Rattle.dr_rows.specs.Json.{column_field}
use Rattle.dr_rows.proofs.json.push_columns.Given as goal

abbrev pub invariant-loop-column : goal.invariant-loop-column
invariant-loop-column l = l.fields ≡ l.fn.fields ++ flat_map (column_field l.cells) (range_with_len 0 l.column)
