use Rattle.std.proofs.Common.{◌≡◌, ◌++◌, take}
use Rattle.std.specs.Prelude.{codes}
use Rattle.std.specs.List.{flat_map}
use Rattle.dr_rows.specs.Cells.{phase_said}
use Rattle.dr_rows.proofs.cells.push_more_phases.Given as goal

abbrev pub invariant-loop-p : goal.invariant-loop-p
invariant-loop-p l = l.text ≡ l.fn.text ++ flat_map (λ p. codes " " ++ phase_said p) (take l.p-index l.more)
