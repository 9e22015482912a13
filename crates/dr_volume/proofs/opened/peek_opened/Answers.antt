use Rattle.std.proofs.Common.{ap, sym, ◌∙◌}
use Rattle.dr_record.specs.Slots.{slot_of}
use Rattle.dr_volume.proofs.VolumeLaws.{shows-normal, device-placed}
use Rattle.dr_volume.proofs.opened.peek_opened.Goals as goal

pub returns : goal.returns
returns g c =
    let s = g.P.Plant.state c.args.plant.now in
    let d = c.find-place.result.device.0 in
    let at = device-placed c.args.config.now c.args.v.0 d c.find-place.ensures.place in
    record {
      gate = record { device = sym at; slot = ap (slot_of s) at ∙ sym c.peek_choice-slot.ensures };
      shows = shows-normal s c.args.config.now c.args.v.0 d _ _ c.find-place.ensures c.fields_on-fields.ensures;
    }
