use Rattle.std.proofs.Common.{◌≡◌, ◌∷◌}
use Rattle.std.specs.List.{flat_map, range_with_len}
use Rattle.dr_rows.specs.Findings.{wanted}
use Rattle.dr_rows.specs.Table.{column_names, disaster_cells}
use Rattle.dr_rows.proofs.table_cells.table.Given as goal

abbrev pub invariant-loop-disaster : goal.invariant-loop-disaster
invariant-loop-disaster l = l.found.items ≡ column_names ∷ flat_map (disaster_cells l.plan l.asks (wanted l.plan) l.rows) (range_with_len 0 l.disaster)
