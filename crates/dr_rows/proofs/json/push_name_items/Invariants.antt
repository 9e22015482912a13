use Rattle.std.proofs.Common.{◌≡◌, ◌++◌, take}
use Rattle.dr_rows.specs.Json.{name_items}
use Rattle.dr_rows.proofs.json.push_name_items.Given as goal

abbrev pub invariant-loop-name : goal.invariant-loop-name
invariant-loop-name l = l.items ≡ l.fn.items ++ name_items (take l.name-index l.names)
