use Rattle.std.proofs.Common.{◌≡◌, ◌++◌, take}
use Rattle.std.specs.List.{flat_map}
use Rattle.dr_rows.specs.Json.{pair_item}
use Rattle.dr_rows.proofs.json.push_pairs.Given as goal

abbrev pub invariant-loop-pair : goal.invariant-loop-pair
invariant-loop-pair l = l.items ≡ l.fn.items ++ flat_map pair_item (take l.pair-index l.pairs)
