use Rattle.std.proofs.Common.{◌≡◌, ◌++◌, take}
use Rattle.std.specs.List.{flat_map}
use Rattle.dr_rows.specs.Json.{disaster_item}
use Rattle.dr_rows.proofs.json.push_disasters.Given as goal

abbrev pub invariant-loop-disaster : goal.invariant-loop-disaster
invariant-loop-disaster l = l.items ≡ l.fn.items ++ flat_map disaster_item (take l.disaster-index l.disasters)
