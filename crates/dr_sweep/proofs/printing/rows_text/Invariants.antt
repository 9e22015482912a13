use Rattle.std.proofs.Common.{◌≡◌, take}
use Rattle.dr_sweep.specs.Printing.{rows_text}
use Rattle.dr_sweep.proofs.printing.rows_text.Given as goal

abbrev pub invariant-loop-row : goal.invariant-loop-row
invariant-loop-row l = l.text ≡ rows_text l.plan (take l.row-index l.rows)
