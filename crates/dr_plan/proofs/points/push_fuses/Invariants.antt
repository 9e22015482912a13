use Rattle.std.proofs.Common.{◌≡◌, ◌++◌}
use Rattle.dr_plan.specs.Points.{fuse_lines, text_of}
use Rattle.dr_plan.proofs.FuseLemmas.{fuses_from}
use Rattle.dr_plan.proofs.points.push_fuses.Given as goal

abbrev pub invariant-loop-place : goal.invariant-loop-place
invariant-loop-place l = l.text ++ fuses_from l.servers l.server l.torn l.writes l.place ≡ l.fn.text ++ text_of (fuse_lines l.servers l.server l.torn l.writes)
