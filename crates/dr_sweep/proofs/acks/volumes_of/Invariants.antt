use Rattle.std.proofs.Common.{◌≡◌, take}
use Rattle.std.specs.List.{filter_map}
use Rattle.dr_sweep.specs.Acks.{volume_by}
use Rattle.dr_sweep.proofs.acks.volumes_of.Given as goal

abbrev pub invariant-loop-place : goal.invariant-loop-place
invariant-loop-place l = l.volumes.items ≡ filter_map (volume_by l.writes.keys) (take l.place l.journal.events)
