use Rattle.std.proofs.Common.{◌≡◌, ◌++◌, take}
use Rattle.std.specs.Prelude.{codes}
use Rattle.std.specs.List.{flat_map}
use Rattle.dr_rows.specs.Cells.{members_said}
use Rattle.dr_rows.proofs.cells.push_more_members.Given as goal

abbrev pub invariant-loop-m : goal.invariant-loop-m
invariant-loop-m l = l.text ≡ l.fn.text ++ flat_map (λ m. codes " " ++ members_said m) (take l.m-index l.more)
