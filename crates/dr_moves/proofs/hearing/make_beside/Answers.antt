use Rattle.std.proofs.Common.{◌∙◌}
use Rattle.dr_moves.specs.Beside.{heard}
use Rattle.dr_moves.specs.Heard.{heard_of}
use Rattle.dr_moves.proofs.HeardLemmas.{heard-advances, heard-halts}
use Rattle.dr_moves.proofs.hearing.make_beside.Goals as goal

pub returns-clause-advances : goal.returns-clause-advances
returns-clause-advances g c =
    let b = g.B.Beside in
    let x = c.args.beside.now in
    let is = c.make_heard.ensures.heard ∙ (λ i. heard b.after (heard_of (c.settled_by.ensures i) (c.marked_by.ensures i) c.make_heard.result) x) in
    heard-advances b.takes b.after b.rest g.met.B.Beside.shows_rest x c.make_heard.new.beside (g.P.Plant.state c.args.plant.now) (g.P.Plant.state c.make_heard.new.plant) c.args.config.now c.args.journal.now.events c.make_heard.new.journal.events c.args.m.now c.make_heard.result c.requires.done is c.make_heard.ensures.made.turned

pub returns-clause-halts : goal.returns-clause-halts
returns-clause-halts g c =
    let b = g.B.Beside in
    let x = c.args.beside.now in
    let is = c.make_heard.ensures.heard ∙ (λ i. heard b.after (heard_of (c.settled_by.ensures i) (c.marked_by.ensures i) c.make_heard.result) x) in
    heard-halts b.takes b.after b.rest g.met.B.Beside.shows_rest x c.make_heard.new.beside (g.P.Plant.state c.args.plant.now) (g.P.Plant.state c.make_heard.new.plant) c.args.config.now c.args.journal.now.events c.make_heard.new.journal.events c.args.m.now c.make_heard.result c.requires.in_stop is c.make_heard.ensures.made.turned

pub returns-clause-heard : goal.returns-clause-heard
returns-clause-heard g c = c.make_heard.ensures.heard ∙ (λ i. heard g.B.Beside.after (heard_of (c.settled_by.ensures i) (c.marked_by.ensures i) c.make_heard.result) c.args.beside.now)
