use Rattle.std.proofs.Common.{◌≡◌, ◌++◌, replicate}
use Rattle.std.specs.Prelude.{codes}
use Rattle.dr_rows.proofs.table_cells.add_no_worst.Given as goal

abbrev pub invariant-loop : goal.invariant-loop
invariant-loop l = l.cells ≡ l.fn.cells ++ replicate l.counter (codes "-")
