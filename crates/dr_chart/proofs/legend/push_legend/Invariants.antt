use Rattle.std.proofs.Common.{◌≡◌, ◌++◌, drop}
use Rattle.dr_chart.specs.Picture.{mark_at, numbered}
use Rattle.dr_chart.proofs.legend.push_legend.Given as goal

-- the text with what is said of those that are left is the first text with what is said of all
abbrev pub invariant-loop-i : goal.invariant-loop-i
invariant-loop-i l = l.text ++ numbered (mark_at l.below) l.i (drop l.i l.marks) ≡ l.fn.text ++ numbered (mark_at l.below) 0 l.marks
