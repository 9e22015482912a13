use Rattle.std.proofs.Common.{◌≡◌, ◌++◌}
use Rattle.std.specs.List.{flat_map, range_with_len}
use Rattle.dr_rows.specs.Strip.{server_column}
use Rattle.dr_rows.proofs.strip.push_server_columns.Given as goal

abbrev pub invariant-loop-server : goal.invariant-loop-server
invariant-loop-server l = l.text ≡ l.fn.text ++ flat_map (server_column l.plan l.signs l.disaster l.place) (range_with_len 0 l.server)
