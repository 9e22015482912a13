use Rattle.std.proofs.Common.{ap, sym, ◌∙◌}
use Rattle.dr_plant.specs.State.{PlantState}
use Rattle.dr_record.specs.Slots.{slot_of}
use Rattle.dr_model.specs.Layout.{chosen}
use Rattle.dr_volume.specs.Plain.{normal}
use Rattle.dr_volume.specs.Record.{raw_of}
use Rattle.dr_volume.proofs.VolumeLaws.{shows-normal, device-placed}
use Rattle.dr_volume.proofs.opened.open.Goals as goal

pub returns-clause-opened : goal.returns-clause-opened
returns-clause-opened g c =
    let s = g.P.Plant.state c.args.plant.now in
    let d = c.find-place.result.device.0 in
    let at = device-placed c.args.config.now c.args.v.0 d c.find-place.ensures.place in
    record {
      gate = record { device = sym at; slot = ap (slot_of s) at ∙ sym c.in_ok-slot.ensures.slot };
      shows = shows-normal s c.args.config.now c.args.v.0 d _ _ c.find-place.ensures
          (c.fields_on-fields.ensures ∙ ap (λ (t : PlantState). normal c.find-place.result.tracks (raw_of (chosen (t.block d)))) c.in_ok-slot.ensures.same);
    }
