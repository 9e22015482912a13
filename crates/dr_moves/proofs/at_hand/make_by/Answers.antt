use Rattle.std.proofs.Common.{sym}
use Rattle.dr_model.specs.Histories.{histories}
use Rattle.dr_volume.specs.View.{volume_seen}
use Rattle.dr_moves.specs.Moves.{move_of}
use Rattle.dr_moves.proofs.ChangeLemmas.{ready-by, kept-by}
use Rattle.dr_moves.proofs.at_hand.make_by.Goals as goal

pub change_by-requires-clause-ready : goal.change_by-requires-clause-ready
change_by-requires-clause-ready g c =
    ready-by (g.P.Plant.state c.args.plant.now) c.args.config.now (move_of c.args.m.now) c.target_of.result.0 c.args.track (histories c.args.journal.now.events).write (sym c.target_of.ensures) c.requires.at c.requires.may c.requires.carries

pub returns-clause-kept : goal.returns-clause-kept
returns-clause-kept g c =
    let s = g.P.Plant.state c.args.plant.now in
    let v = c.target_of.result.0 in
    let made = c.change_by.ensures in
    kept-by s c.args.config.now (move_of c.args.m.now) v c.args.track (histories c.args.journal.now.events).write (sym c.target_of.ensures) c.requires.at c.requires.may c.requires.carries
    (g.P.Plant.state c.change_by.new.plant) c.args.journal.now c.change_by.new.journal (volume_seen s c.args.config.now v).server c.change_by.result made.either made.made.others made.stayed
