use Rattle.std.proofs.Common.{ap, sym, ◌∙◌, subst, Some}
use Rattle.dr_plant.specs.State.{PlantState}
use Rattle.dr_plant.proofs.StateLemmas.{read_done}
use Rattle.dr_model.specs.ReadStops.{GoesOff}
use Rattle.dr_moves.specs.Here.{world_seen, armed_in, IsAtRest}
use Rattle.dr_moves.proofs.ReadLemmas.{left-unread, unread-gone, unread-rose, rest-same, before-same}
use Rattle.dr_moves.proofs.reads.read_told.Goals as goal

pub returns-in-Ok-clause-passed : goal.returns-in-Ok-clause-passed
returns-in-Ok-clause-passed g c = (c.in-Ok.ensures.state ∙ read_done (g.P.Plant.state c.args.plant.now) _ (sym c.in-Ok.ensures.done))

pub returns-in-Ok-clause-same : goal.returns-in-Ok-clause-same
returns-in-Ok-clause-same g c = before-same c.args.config.now (g.P.Plant.state c.args.plant.now) (g.P.Plant.state c.read_track.new.plant) (c.in-Ok.ensures.state ∙ read_done (g.P.Plant.state c.args.plant.now) _ (sym c.in-Ok.ensures.done))

pub returns-in-Ok-clause-rest : goal.returns-in-Ok-clause-rest
returns-in-Ok-clause-rest g c = subst (λ s. IsAtRest s c.args.config.now) (sym (c.in-Ok.ensures.state ∙ read_done (g.P.Plant.state c.args.plant.now) _ (sym c.in-Ok.ensures.done))) c.requires.rest

pub returns-in-Ok-clause-unarmed : goal.returns-in-Ok-clause-unarmed
returns-in-Ok-clause-unarmed g c q none = ap (λ (s : PlantState). s.read_fuse q) (c.in-Ok.ensures.state ∙ read_done (g.P.Plant.state c.args.plant.now) _ (sym c.in-Ok.ensures.done)) ∙ none

pub returns-in-Ok-clause-faults : goal.returns-in-Ok-clause-faults
returns-in-Ok-clause-faults g c = ap (λ (s : PlantState). s.faults) (c.in-Ok.ensures.state ∙ read_done (g.P.Plant.state c.args.plant.now) _ (sym c.in-Ok.ensures.done))

pub returns-in-Err-clause-gone : goal.returns-in-Err-clause-gone
returns-in-Err-clause-gone g c r =
    let s = g.P.Plant.state c.args.plant.now in
    subst (λ e. GoesOff (armed_in s) (world_seen (g.P.Plant.state c.read_track.new.plant) c.args.config.now r c.gone_off.new.journal.events) (Some e) (world_seen s c.args.config.now r c.args.journal.now.events)) (sym (c.gone_off.ensures.refusal s))
    (unread-gone c.args.config.now (g.P.Plant.state c.args.plant.now) (g.P.Plant.state c.read_track.new.plant) c.args.v.0 c.requires.rest.stands (c.requires.rest.sizes c.args.v.0) c.requires.defined c.in-Err.ensures.done c.in-Err.ensures.state c.requires.running r c.args.journal.now.events c.gone_off.new.journal.events (c.gone_off.ensures.events s))

pub returns-in-Err-clause-same : goal.returns-in-Err-clause-same
returns-in-Err-clause-same g c = (left-unread c.args.config.now (g.P.Plant.state c.args.plant.now) (g.P.Plant.state c.read_track.new.plant) c.args.v.0 c.requires.rest.stands (c.requires.rest.sizes c.args.v.0) c.requires.defined c.in-Err.ensures.done c.in-Err.ensures.state).same

pub returns-in-Err-clause-rest : goal.returns-in-Err-clause-rest
returns-in-Err-clause-rest g c =
    let x = left-unread c.args.config.now (g.P.Plant.state c.args.plant.now) (g.P.Plant.state c.read_track.new.plant) c.args.v.0 c.requires.rest.stands (c.requires.rest.sizes c.args.v.0) c.requires.defined c.in-Err.ensures.done c.in-Err.ensures.state in
    rest-same c.args.config.now (g.P.Plant.state c.args.plant.now) (g.P.Plant.state c.read_track.new.plant) c.requires.rest x.stands x.same

pub returns-in-Err-clause-unarmed : goal.returns-in-Err-clause-unarmed
returns-in-Err-clause-unarmed g c = (left-unread c.args.config.now (g.P.Plant.state c.args.plant.now) (g.P.Plant.state c.read_track.new.plant) c.args.v.0 c.requires.rest.stands (c.requires.rest.sizes c.args.v.0) c.requires.defined c.in-Err.ensures.done c.in-Err.ensures.state).unarmed

pub returns-in-Err-clause-faults : goal.returns-in-Err-clause-faults
returns-in-Err-clause-faults g c = unread-rose c.args.config.now (g.P.Plant.state c.args.plant.now) (g.P.Plant.state c.read_track.new.plant) c.args.v.0 c.requires.rest.stands (c.requires.rest.sizes c.args.v.0) c.requires.defined c.in-Err.ensures.done c.in-Err.ensures.state
