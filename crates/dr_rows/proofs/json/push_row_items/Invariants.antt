use Rattle.std.proofs.Common.{◌≡◌, ◌++◌}
use Rattle.std.specs.List.{flat_map, range_with_len}
use Rattle.dr_rows.specs.Json.{use_row}
use Rattle.dr_rows.proofs.json.push_row_items.Given as goal

abbrev pub invariant-loop-which : goal.invariant-loop-which
invariant-loop-which l = l.items ≡ l.fn.items ++ flat_map (use_row l.plan l.row) (range_with_len 0 l.which)
