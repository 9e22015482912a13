use Rattle.std.proofs.Common.{◌≡◌, ◌++◌, take}
use Rattle.std.specs.Prelude.{codes}
use Rattle.std.specs.List.{flat_map}
use Rattle.dr_rows.specs.Cells.{write_said}
use Rattle.dr_rows.proofs.cells.push_more_writes.Given as goal

abbrev pub invariant-loop-w : goal.invariant-loop-w
invariant-loop-w l = l.text ≡ l.fn.text ++ flat_map (λ w. codes " " ++ write_said w) (take l.w-index l.more)
