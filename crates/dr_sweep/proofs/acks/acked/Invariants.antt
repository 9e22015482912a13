use Rattle.std.proofs.Common.{◌≡◌, take}
use Rattle.dr_sweep.specs.Acks.{acked_in}
use Rattle.dr_sweep.proofs.acks.acked.Given as goal

abbrev pub invariant-loop-place : goal.invariant-loop-place
invariant-loop-place l = l.writes.items ≡ acked_in (take l.place l.journal.events)
