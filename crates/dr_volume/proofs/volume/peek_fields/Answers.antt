use Rattle.dr_volume.proofs.VolumeLaws.{shows-normal}
use Rattle.dr_volume.proofs.volume.peek_fields.Goals as goal

pub returns : goal.returns
returns g c = shows-normal (g.P.Plant.state c.args.plant.now) c.args.config.now c.args.v.0 _ _ _ c.find.ensures c.fields_on.ensures
