use Rattle.std.proofs.Common.{◌≡◌, ◌++◌, replicate}
use Rattle.dr_rows.proofs.table.push_blanks.Given as goal

abbrev pub invariant-loop : goal.invariant-loop
invariant-loop l = l.text ≡ l.fn.text ++ replicate l.counter 32
