use Rattle.std.proofs.Common.{◌≡◌, ◌++◌, take}
use Rattle.std.specs.Prelude.{codes}
use Rattle.std.specs.List.{flat_map}
use Rattle.dr_rows.specs.Cells.{group_said}
use Rattle.dr_rows.proofs.cells.push_more_groups.Given as goal

abbrev pub invariant-loop-a : goal.invariant-loop-a
invariant-loop-a l = l.text ≡ l.fn.text ++ flat_map (λ a. codes " " ++ group_said a) (take l.a-index l.more)
