use Rattle.std.proofs.Common.{◌≡◌, ◌++◌}
use Rattle.std.specs.List.{flat_map, range_with_len}
use Rattle.dr_rows.specs.Kinds.{disaster_told}
use Rattle.dr_rows.proofs.disasters.push_disasters.Given as goal

abbrev pub invariant-loop-disaster : goal.invariant-loop-disaster
invariant-loop-disaster l = l.text ≡ l.fn.text ++ flat_map (disaster_told l.plan l.asks l.rows) (range_with_len 0 l.disaster)
