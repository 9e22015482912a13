use Rattle.std.proofs.Common.{◌≡◌, ◌++◌, drop}
use Rattle.dr_chart.specs.Picture.{phase_at, numbered}
use Rattle.dr_chart.proofs.moments.push_phases.Given as goal

-- the text with what is said of those that are left is the first text with what is said of all
abbrev pub invariant-loop-i : goal.invariant-loop-i
invariant-loop-i l = l.text ++ numbered (phase_at l.frame l.columns) l.i (drop l.i l.columns) ≡ l.fn.text ++ numbered (phase_at l.frame l.columns) 0 l.columns
