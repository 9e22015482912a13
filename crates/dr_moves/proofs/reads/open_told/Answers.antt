use Rattle.std.proofs.Common.{ap, sym, ◌∙◌, subst, Some}
use Rattle.dr_plant.specs.State.{PlantState}
use Rattle.dr_model.specs.ReadStops.{GoesOff}
use Rattle.dr_config.specs.Table.{StandsFor}
use Rattle.dr_moves.specs.Here.{world_seen, armed_in}
use Rattle.dr_moves.proofs.ReadLemmas.{left-unread, unread-gone, unread-rose, unread-off, before-same}
use Rattle.dr_moves.proofs.reads.open_told.Goals as goal

pub returns-in-Ok-clause-same : goal.returns-in-Ok-clause-same
returns-in-Ok-clause-same g c = before-same c.args.config.now (g.P.Plant.state c.args.plant.now) (g.P.Plant.state c.open_gate.new.plant) c.in-Ok.ensures.same

pub returns-in-Ok-clause-stands : goal.returns-in-Ok-clause-stands
returns-in-Ok-clause-stands g c = subst (StandsFor c.args.config.now) (sym c.in-Ok.ensures.same) c.requires.ready.stands

pub returns-in-Ok-clause-unarmed : goal.returns-in-Ok-clause-unarmed
returns-in-Ok-clause-unarmed g c q none = ap (λ (s : PlantState). s.read_fuse q) c.in-Ok.ensures.same ∙ none

pub returns-in-Ok-clause-faults : goal.returns-in-Ok-clause-faults
returns-in-Ok-clause-faults g c = ap (λ (s : PlantState). s.faults) c.in-Ok.ensures.same

pub returns-in-Err-clause-gone : goal.returns-in-Err-clause-gone
returns-in-Err-clause-gone g c r =
    let s = g.P.Plant.state c.args.plant.now in
    subst (λ e. GoesOff (armed_in s) (world_seen (g.P.Plant.state c.open_gate.new.plant) c.args.config.now r c.gone_off.new.journal.events) (Some e) (world_seen s c.args.config.now r c.args.journal.now.events)) (sym (c.gone_off.ensures.refusal s))
    (unread-gone c.args.config.now (g.P.Plant.state c.args.plant.now) (g.P.Plant.state c.open_gate.new.plant) c.args.v.0 c.requires.ready.stands c.requires.ready.size c.requires.ready.defined c.in-Err.ensures.done c.in-Err.ensures.state c.requires.ready.running r c.args.journal.now.events c.gone_off.new.journal.events (c.gone_off.ensures.events s))

pub returns-in-Err-clause-same : goal.returns-in-Err-clause-same
returns-in-Err-clause-same g c = (left-unread c.args.config.now (g.P.Plant.state c.args.plant.now) (g.P.Plant.state c.open_gate.new.plant) c.args.v.0 c.requires.ready.stands c.requires.ready.size c.requires.ready.defined c.in-Err.ensures.done c.in-Err.ensures.state).same

pub returns-in-Err-clause-stands : goal.returns-in-Err-clause-stands
returns-in-Err-clause-stands g c = (left-unread c.args.config.now (g.P.Plant.state c.args.plant.now) (g.P.Plant.state c.open_gate.new.plant) c.args.v.0 c.requires.ready.stands c.requires.ready.size c.requires.ready.defined c.in-Err.ensures.done c.in-Err.ensures.state).stands

pub returns-in-Err-clause-off : goal.returns-in-Err-clause-off
returns-in-Err-clause-off g c = unread-off c.args.config.now (g.P.Plant.state c.args.plant.now) (g.P.Plant.state c.open_gate.new.plant) c.args.v.0 c.requires.ready.stands c.requires.ready.size c.requires.ready.defined c.in-Err.ensures.done c.in-Err.ensures.state

pub returns-in-Err-clause-unarmed : goal.returns-in-Err-clause-unarmed
returns-in-Err-clause-unarmed g c = (left-unread c.args.config.now (g.P.Plant.state c.args.plant.now) (g.P.Plant.state c.open_gate.new.plant) c.args.v.0 c.requires.ready.stands c.requires.ready.size c.requires.ready.defined c.in-Err.ensures.done c.in-Err.ensures.state).unarmed

pub returns-in-Err-clause-faults : goal.returns-in-Err-clause-faults
returns-in-Err-clause-faults g c = unread-rose c.args.config.now (g.P.Plant.state c.args.plant.now) (g.P.Plant.state c.open_gate.new.plant) c.args.v.0 c.requires.ready.stands c.requires.ready.size c.requires.ready.defined c.in-Err.ensures.done c.in-Err.ensures.state
