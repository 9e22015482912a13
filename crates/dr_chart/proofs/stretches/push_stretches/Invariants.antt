use Rattle.std.proofs.Common.{◌≡◌, ◌++◌}
use Rattle.std.specs.List.{flat_map, range_with_len}
use Rattle.dr_chart.specs.Picture.{stretch_at}
use Rattle.dr_chart.proofs.stretches.push_stretches.Given as goal

abbrev pub invariant-loop-stretch : goal.invariant-loop-stretch
invariant-loop-stretch l = l.text ≡ l.fn.text ++ flat_map (stretch_at l.plan l.frame l.columns) (range_with_len 0 l.stretch)
