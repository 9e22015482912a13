use Rattle.std.proofs.Common.{ap, sym, subst, ◌∙◌}
use Rattle.dr_ids.specs.Sizes.{record_blocks}
use Rattle.dr_plant.specs.Writes.{IsDevice}
use Rattle.dr_model.specs.Layout as layout
use Rattle.dr_volume.specs.Head.{copies_by, head_said, relation_in}
use Rattle.dr_volume.proofs.HeadLaws.{entry-there, device-there, head-at}
use Rattle.dr_volume.proofs.head.is_target_at.Goals as goal

pub is_target_on-requires : goal.is_target_on-requires
is_target_on-requires g c =
    let s = g.P.Plant.state c.args.plant.now in
    let e = entry-there c.args.config.now c.args.place c.requires.there in
    subst (λ d. IsDevice s d record_blocks) (sym c.device_at-device.ensures) (device-there s c.args.config.now c.args.place e.0 c.requires.there e.1 c.requires.stands)

pub returns : goal.returns
returns g c =
    let s = g.P.Plant.state c.args.plant.now in
    let e = entry-there c.args.config.now c.args.place c.requires.there in
    c.is_target_on.ensures
    ∙ ap (λ d. copies_by c.args.v.0 (relation_in (head_said (layout.chosen (s.block d) 0)))) c.device_at-device.ensures
    ∙ ap (λ h. copies_by c.args.v.0 (relation_in h)) (sym (head-at s c.args.config.now c.args.place e.0 e.1))
