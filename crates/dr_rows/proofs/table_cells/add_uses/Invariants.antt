use Rattle.std.proofs.Common.{◌≡◌, ◌++◌, map}
use Rattle.std.specs.List.{range_with_len}
use Rattle.dr_rows.specs.Table.{use_cells}
use Rattle.dr_rows.proofs.table_cells.add_uses.Given as goal

abbrev pub invariant-loop-which : goal.invariant-loop-which
invariant-loop-which l =
    l.table.items ≡ l.fn.table.items ++ map (use_cells l.plan l.asks l.numbers l.disaster (map (λ row. row.now) l.rows)) (range_with_len 0 l.which)
