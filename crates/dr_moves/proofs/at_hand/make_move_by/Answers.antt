use Rattle.dr_model.specs.Moves.{target, fields_left}
use Rattle.dr_volume.specs.View.{volume_seen}
use Rattle.dr_moves.specs.Moves.{move_of}
use Rattle.dr_moves.proofs.EnteredLemmas.{entered-done, entered-stopped}
use Rattle.dr_moves.proofs.TurnMade.{came-either}
use Rattle.dr_moves.proofs.at_hand.make_move_by.Goals as goal

pub returns-in-Ok-clause-entered : goal.returns-in-Ok-clause-entered
returns-in-Ok-clause-entered g c =
    let m = move_of c.args.m.now in
    entered-done (g.P.Plant.state c.args.plant.now) (g.P.Plant.state c.make_by.new.plant) c.args.config.now c.args.journal.now c.make_by.new.journal m (target m) c.args.track c.requires.calm c.in-Ok.ensures.made

pub returns-in-Err-clause-entered : goal.returns-in-Err-clause-entered
returns-in-Err-clause-entered g c =
    let m = move_of c.args.m.now in
    entered-stopped (g.P.Plant.state c.args.plant.now) (g.P.Plant.state c.make_by.new.plant) c.args.config.now c.args.journal.now c.make_by.new.journal m (target m) c.args.track c.requires.calm c.in-Err.stop c.in-Err.ensures.made

pub returns-in-Err-clause-old_or_new : goal.returns-in-Err-clause-old_or_new
returns-in-Err-clause-old_or_new g c =
    let s = g.P.Plant.state c.args.plant.now in
    let t = c.args.config.now in
    let m = move_of c.args.m.now in
    came-either c.in-Err.stop.counts s (g.P.Plant.state c.make_by.new.plant) t (target m) (fields_left m (volume_seen s t (target m))) c.args.track c.in-Err.ensures.made.came
