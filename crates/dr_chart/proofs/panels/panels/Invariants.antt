use Rattle.std.proofs.Common.{◌≡◌}
use Rattle.std.specs.List.{flat_map, range_with_len}
use Rattle.dr_chart.specs.Panels.{disaster_panels}
use Rattle.dr_chart.proofs.panels.panels.Given as goal

abbrev pub invariant-loop-disaster : goal.invariant-loop-disaster
invariant-loop-disaster l = l.found.items ≡ flat_map (disaster_panels l.plan l.asks l.rows) (range_with_len 0 l.disaster)
