use Rattle.std.proofs.Common.{arith}
use Rattle.dr_volume.proofs.VolumeLaws.{lies-sound, device-lies}
use Rattle.dr_volume.proofs.opened.open_gate.Goals as goal

pub read_choice-requires : goal.read_choice-requires
read_choice-requires g c =
    let lies = lies-sound c.args.config.now c.args.v.0 _ c.device_of-device.ensures.sound c.device_of-device.ensures.place in
    let device = device-lies (g.P.Plant.state c.args.plant.now) c.args.config.now c.args.v.0 _ lies.0 lies.1 c.requires.stands in
    let blocks = device.blocks in
    record { device = device.device; block = omega arith }
