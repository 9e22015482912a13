use Rattle.std.proofs.Common.{◌≡◌, ◌+◌, ◌-◌, ◌≤◌, None, length}
use Rattle.dr_io.specs.Lines.{most_bytes, most_piece}
use Rattle.dr_io.proofs.ReadingSteps.{Along}
use Rattle.dr_io.proofs.line_reader.LineReader.read_line.Given as goal

abbrev pub invariant-loop-self : goal.invariant-loop-self
invariant-loop-self g l = record {
  along : Along g.S.Source.left g.S.Source.faults l.fn.source l.source l.fn.self l.self-inside.ahead l.self-inside.kept l.self-inside.taken;
  within : l.self-inside.taken ≤ most_bytes;
  near : length l.self-inside.ahead ≤ most_piece;
  given : l.self-inside.given ≡ l.fn.self.given;
  going : l.self-inside.over ≡ None;
}

abbrev pub decreases-loop-self : goal.decreases-loop-self
decreases-loop-self g l = most_bytes + 1 - l.self-inside.taken
