use Rattle.std.proofs.Common.{◌≡◌, take}
use Rattle.dr_sweep.specs.Acks.{issued_on}
use Rattle.dr_sweep.proofs.acks.issued_on.Given as goal

abbrev pub invariant-loop-place : goal.invariant-loop-place
invariant-loop-place l = l.writes.items ≡ issued_on l.volumes (take l.place l.journal.events)
