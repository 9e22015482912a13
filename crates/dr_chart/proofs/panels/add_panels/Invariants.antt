use Rattle.std.proofs.Common.{◌≡◌, ◌++◌, map}
use Rattle.std.specs.List.{range_with_len}
use Rattle.dr_chart.specs.Panels.{panel_of}
use Rattle.dr_chart.proofs.panels.add_panels.Given as goal

abbrev pub invariant-loop-which : goal.invariant-loop-which
invariant-loop-which l = l.found.items ≡ l.fn.found.items ++ map (panel_of l.plan l.asks l.rows l.disaster) (range_with_len 0 l.which)
