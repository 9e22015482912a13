use Rattle.std.proofs.Common.{◌≡◌, ◌-◌, map, length, take, vec_len}
use Rattle.dr_report.specs.Known.{all_known, known_by}
use Rattle.dr_report.proofs.device.read_devices.Given as goal

abbrev pub invariant-loop-volume : goal.invariant-loop-volume
invariant-loop-volume l = all_known l.devices.items ≡ map known_by (take (vec_len l.devices) l.image)

abbrev pub decreases-loop-volume : goal.decreases-loop-volume
decreases-loop-volume l = length l.image - vec_len l.devices
