use Rattle.std.proofs.Common.{◌≡◌, ◌++◌, take}
use Rattle.std.specs.List.{flat_map}
use Rattle.dr_rows.specs.Calm.{pairs_said}
use Rattle.dr_rows.proofs.calm.push_uses.Given as goal

abbrev pub invariant-loop-of : goal.invariant-loop-of
invariant-loop-of l = l.text ≡ l.fn.text ++ flat_map (pairs_said l.calm) (take l.of-index l.uses)
