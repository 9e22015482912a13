use Rattle.std.proofs.Common.{◌∙◌, ap, arith, true, false, None, refl}
use Rattle.dr_plant.specs.State.{started}
use Rattle.dr_plant.specs.Model.{state_of}
use Rattle.dr_plant.proofs.StateLemmas.{same_state}
use Rattle.dr_plant.proofs.Tables.{each-set}
use Rattle.dr_plant.proofs.model.ModelPlantPlant.start.Goals as goal
use Rattle.dr_logic.specs.Tables.{at}

pub returns : goal.returns
unfolding started
returns c =
    let s = state_of c.args.self.now in
    same_state _ _ refl refl refl refl
    (each-set false c.args.self.now.on c.args.server true (omega arith))
    (each-set None c.args.self.now.write_fuses c.args.server c.started_write.result (omega arith) ∙ ap (at s.write_fuse c.args.server) c.started_write.ensures)
    (each-set None c.args.self.now.read_fuses c.args.server c.started_read.result (omega arith) ∙ ap (at s.read_fuse c.args.server) c.started_read.ensures)
    refl
