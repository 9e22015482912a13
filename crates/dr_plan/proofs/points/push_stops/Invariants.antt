use Rattle.std.proofs.Common.{◌≡◌, ◌++◌, take, map}
use Rattle.dr_plan.specs.Points.{stop_line, text_of}
use Rattle.dr_plan.proofs.points.push_stops.Given as goal

abbrev pub invariant-loop-server : goal.invariant-loop-server
invariant-loop-server l = l.text ≡ l.fn.text ++ text_of (map stop_line (take l.server-index l.servers))
