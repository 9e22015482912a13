use Rattle.std.proofs.Common.{◌≡◌, take}
use Rattle.dr_sweep.specs.Acks.{newest_in}
use Rattle.dr_sweep.proofs.acks.newest.Given as goal

abbrev pub invariant-loop-place : goal.invariant-loop-place
invariant-loop-place l = l.last ≡ newest_in (take l.place l.journal.events)
