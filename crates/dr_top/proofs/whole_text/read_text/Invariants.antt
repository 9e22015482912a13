use Rattle.std.proofs.Common.{◌≡◌, ◌-◌}
use Rattle.dr_top.specs.Offline.{script_limits}
use Rattle.dr_top.proofs.OfflineLemmas.{TakenSoFar}
use Rattle.dr_top.proofs.whole_text.read_text.Given as goal

abbrev pub invariant-loop-text : goal.invariant-loop-text
invariant-loop-text g l = record { so_far : TakenSoFar g.S.Source.left g.S.Source.faults l.fn.source l.source l.pieces; is : l.text ≡ so_far.text }

abbrev pub decreases-loop-text : goal.decreases-loop-text
decreases-loop-text g l = script_limits.bytes - l.pieces.amount.bytes
