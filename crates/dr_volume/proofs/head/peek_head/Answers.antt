use Rattle.std.proofs.Common.{arith, sym, ◌∙◌}
use Rattle.dr_config.proofs.Lookups.{entry-at-place}
use Rattle.dr_volume.proofs.VolumeLaws.{device-stands}
use Rattle.dr_volume.proofs.HeadLaws.{head-seen}
use Rattle.dr_volume.proofs.head.peek_head.Goals as goal

pub head_on-requires : goal.head_on-requires
head_on-requires g c =
    let e = entry-at-place c.args.config.now c.args.v.0 c.device_of.result.0 c.device_of.ensures.place in
    let device = device-stands (g.P.Plant.state c.args.plant.now) c.args.config.now c.args.v.0 c.device_of.result.0 e.0 c.device_of.ensures.place e.1 c.requires.stands in
    let size = device.1 in
    record { device = device.0; blocks = omega arith }

pub returns : goal.returns
returns g c =
    let e = entry-at-place c.args.config.now c.args.v.0 c.device_of.result.0 c.device_of.ensures.place in
    c.head_on.ensures ∙ sym (head-seen (g.P.Plant.state c.args.plant.now) c.args.config.now c.args.v.0 c.device_of.result.0 e.0 c.device_of.ensures.place e.1)
