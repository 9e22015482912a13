use Rattle.std.proofs.Common.{arith, ap, sym, ◌∙◌}
use Rattle.dr_model.specs.Control.{Volume}
use Rattle.dr_volume.proofs.VolumeLaws.{entry, lies-sound, device-lies, volume-placed, chosen_slot}
use Rattle.dr_volume.proofs.volume.slot.Goals as goal

pub peek_choice-requires : goal.peek_choice-requires
peek_choice-requires g c =
    let lies = lies-sound c.args.config.now c.args.v.0 _ c.device_of.ensures.sound c.device_of.ensures.place in
    let device = device-lies (g.P.Plant.state c.args.plant.now) c.args.config.now c.args.v.0 _ lies.0 lies.1 c.requires.stands in
    let blocks = device.blocks in
    record { device = device.device; block = omega arith }

pub returns : goal.returns
returns g c =
    let s = g.P.Plant.state c.args.plant.now in
    let d = c.device_of.result.0 in
    let lies = lies-sound c.args.config.now c.args.v.0 d c.device_of.ensures.sound c.device_of.ensures.place in
    let e = entry c.args.config.now c.args.v.0 d lies.0 lies.1 in
    c.peek_choice.ensures ∙ chosen_slot s d ∙ sym (ap (λ (w : Volume). w.slot) (volume-placed s c.args.config.now c.args.v.0 d e.0 c.device_of.ensures.place e.1))
