use Rattle.std.proofs.Common.{◌≡◌, ◌≤◌, ◌+◌, length}
use Rattle.std.specs.Str.Lines.{lines}
use Rattle.dr_plan.specs.Reading.{read_lines, sweep_of}
use Rattle.dr_plan.proofs.reading.read_whole.Given as goal

abbrev pub invariant-loop-rest : goal.invariant-loop-rest
invariant-loop-rest l = record { leads : read_lines l.number l.reading (lines l.rest) ≡ sweep_of (lines l.text); few : l.number + length l.rest ≤ length l.text + 1 }

abbrev pub decreases-loop-rest : goal.decreases-loop-rest
decreases-loop-rest l = length l.rest
