use Rattle.std.proofs.Common.{true}
use Rattle.dr_model.specs.Moves.{Hold, fields_left}
use Rattle.dr_volume.specs.View.{volume_seen}
use Rattle.dr_moves.proofs.HeardLemmas.{open-advances, open-halts}
use Rattle.dr_moves.proofs.hearing.open_attempt.Goals as goal

pub returns-clause-advances : goal.returns-clause-advances
returns-clause-advances g c =
    let b = g.B.Beside in
    let s = g.P.Plant.state c.args.plant.now in
    let t = c.args.config.now in
    let v = c.args.v.0 in
    open-advances b.takes b.after b.rest g.met.B.Beside.shows_rest c.args.beside.now c.make_heard.new.beside s (g.P.Plant.state c.make_heard.new.plant) t c.args.journal.now.events c.make_heard.new.journal.events v c.args.s c.args.n (fields_left (Hold v c.args.s.0 c.args.n true) (volume_seen s t v)) c.requires.takes c.make_heard.result c.make_heard.ensures.heard c.make_heard.ensures.made.turned c.make_heard.ensures.made.came

pub returns-clause-halts : goal.returns-clause-halts
returns-clause-halts g c =
    let b = g.B.Beside in
    let s = g.P.Plant.state c.args.plant.now in
    let t = c.args.config.now in
    let v = c.args.v.0 in
    open-halts b.takes b.after b.rest g.met.B.Beside.shows_rest c.args.beside.now c.make_heard.new.beside s (g.P.Plant.state c.make_heard.new.plant) t c.args.journal.now.events c.make_heard.new.journal.events v c.args.s c.args.n (fields_left (Hold v c.args.s.0 c.args.n true) (volume_seen s t v)) c.requires.takes c.make_heard.result c.make_heard.ensures.heard c.make_heard.ensures.made.turned c.make_heard.ensures.made.came
