use Rattle.std.proofs.Common.{◌≡◌, ◌++◌, take}
use Rattle.std.specs.List.{flat_map}
use Rattle.dr_rows.specs.Json.{use_item}
use Rattle.dr_rows.proofs.json.push_uses.Given as goal

abbrev pub invariant-loop-of : goal.invariant-loop-of
invariant-loop-of l = l.items ≡ l.fn.items ++ flat_map use_item (take l.of-index l.uses)
