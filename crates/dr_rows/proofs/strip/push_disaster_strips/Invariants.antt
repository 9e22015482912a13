use Rattle.std.proofs.Common.{◌≡◌, ◌++◌}
use Rattle.std.specs.List.{flat_map, range_with_len}
use Rattle.dr_rows.specs.Strip.{disaster_strip}
use Rattle.dr_rows.proofs.strip.push_disaster_strips.Given as goal

abbrev pub invariant-loop-disaster : goal.invariant-loop-disaster
invariant-loop-disaster l = l.text ≡ l.fn.text ++ flat_map (disaster_strip l.plan l.asks l.rows) (range_with_len 0 l.disaster)
