use Rattle.std.proofs.Common.{◌≡◌, ◌++◌, take}
use Rattle.dr_plan.specs.Points.{text_of}
use Rattle.dr_plan.proofs.points.push_lines.Given as goal

abbrev pub invariant-loop-line : goal.invariant-loop-line
invariant-loop-line l = l.text ≡ l.fn.text ++ text_of (take l.line-index l.lines)
