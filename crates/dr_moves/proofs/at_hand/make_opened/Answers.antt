use Rattle.std.proofs.Common.{sym, subst}
use Rattle.dr_model.specs.Histories.{histories}
use Rattle.dr_volume.specs.View.{volume_seen}
use Rattle.dr_volume.specs.Volume.{Says}
use Rattle.dr_volume.proofs.SaysLaws.{shows-says}
use Rattle.dr_model.specs.Moves as machine
use Rattle.dr_moves.specs.Moves.{move_of}
use Rattle.dr_moves.proofs.ChangeLemmas.{ready-by, kept-by}
use Rattle.dr_moves.proofs.at_hand.make_opened.Goals as goal

pub change-requires-clause-ready : goal.change-requires-clause-ready
change-requires-clause-ready g c =
    ready-by (g.P.Plant.state c.args.plant.now) c.args.config.now (move_of c.args.m.now) c.target_of.result.0 c.args.track (histories c.args.journal.now.events).write (sym c.target_of.ensures) c.requires.at c.requires.may c.requires.carries

pub returns-clause-kept : goal.returns-clause-kept
returns-clause-kept g c =
    let s = g.P.Plant.state c.args.plant.now in
    let v = c.target_of.result.0 in
    let made = c.change.ensures in
    kept-by s c.args.config.now (move_of c.args.m.now) v c.args.track (histories c.args.journal.now.events).write (sym c.target_of.ensures) c.requires.at c.requires.may c.requires.carries
    (g.P.Plant.state c.change.new.plant) c.args.journal.now c.change.new.journal (volume_seen s c.args.config.now v).server c.change.result made.either made.made.others made.stayed

pub change-requires-clause-says : goal.change-requires-clause-says
change-requires-clause-says g c =
    subst (λ v. Says (g.P.Plant.state c.args.plant.now) c.args.config.now v c.args.opened.now.fields) (sym c.target_of.ensures)
    (shows-says (g.P.Plant.state c.args.plant.now) c.args.config.now (machine.target (move_of c.args.m.now)) c.args.opened.now.fields c.requires.opened.shows)
