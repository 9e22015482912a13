use Rattle.std.proofs.Common.{refl}
use Rattle.dr_model.specs.Histories.{histories}
use Rattle.dr_model.specs.Moves.{target}
use Rattle.dr_volume.specs.View.{volume_seen}
use Rattle.dr_moves.specs.Moves.{move_of}
use Rattle.dr_moves.proofs.ChangeLemmas.{ready-by, kept-by}
use Rattle.dr_moves.proofs.acts.make.Goals as goal

pub make_ready-requires-clause-ready : goal.make_ready-requires-clause-ready
make_ready-requires-clause-ready g c =
    let m = move_of c.args.m.now in
    ready-by (g.P.Plant.state c.args.plant.now) c.args.config.now m (target m) c.args.track (histories c.args.journal.now.events).write refl c.requires.at c.requires.may c.requires.carries

pub returns-clause-kept : goal.returns-clause-kept
returns-clause-kept g c =
    let s = g.P.Plant.state c.args.plant.now in
    let m = move_of c.args.m.now in
    let made = c.make_ready.ensures in
    kept-by s c.args.config.now m (target m) c.args.track (histories c.args.journal.now.events).write refl c.requires.at c.requires.may c.requires.carries
    (g.P.Plant.state c.make_ready.new.plant) c.args.journal.now c.make_ready.new.journal (volume_seen s c.args.config.now (target m)).server c.make_ready.result made.either made.made.others made.stayed
