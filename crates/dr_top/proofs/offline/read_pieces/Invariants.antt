use Rattle.std.proofs.Common.{◌-◌}
use Rattle.dr_top.specs.Offline.{script_limits}
use Rattle.dr_top.proofs.OfflineLemmas.{ReadSoFar}
use Rattle.dr_top.proofs.offline.read_pieces.Given as goal

abbrev pub invariant-loop-image : goal.invariant-loop-image
invariant-loop-image g l = ReadSoFar g.S.Source.left g.S.Source.faults l.fn.source l.source l.pieces l.image

abbrev pub decreases-loop-image : goal.decreases-loop-image
decreases-loop-image g l = script_limits.bytes - l.pieces.amount.bytes
