use Rattle.std.proofs.Common.{◌∙◌, ap}
use Rattle.std.specs.Prelude.{is_some}
use Rattle.dr_config.proofs.Lookups.{place-of-entry}
use Rattle.dr_model.specs.WriteEntries.{waits}
use Rattle.dr_steps.specs.Faults.{is_stopped}
use Rattle.dr_steps.specs.Here.{here, rest_of}
use Rattle.dr_steps.specs.Waiting.{written_as}
use Rattle.dr_steps.proofs.LandLemmas.{ready-after}
use Rattle.dr_steps.proofs.LocatedLemmas.{some_entry}
use Rattle.dr_steps.proofs.StepLemmas.{written-end, written-calm, calm-counts, there-is}
use Rattle.dr_steps.proofs.steps.carry_write.Goals as goal

pub place_write-requires-clause-due : goal.place_write-requires-clause-due
place_write-requires-clause-due g c =
    let q = c.requires in
    let t = c.args.config.now in
    let w = c.args.write.now in
    let there = there-is (g.P.Plant.state c.args.plant.now) t c.args.tables.now c.args.journal.now.events w.volume.0 w.track q.there in
    let e = some_entry _ there.0 in
    record { at = record { rest = q.ready.rest; fit = q.fit }; told = q.ready.told; defined = ap is_some (place-of-entry t w.volume.0 e.0 e.1).1; within = there.1; fits = q.fits; found = q.found }

pub returns-in-Ok-clause-says : goal.returns-in-Ok-clause-says
returns-in-Ok-clause-says g c =
    let w = here (g.P.Plant.state c.args.plant.now) c.args.config.now c.args.tables.now c.args.journal.now.events in
    c.answer.ensures ∙ ap (written_as c.args.write.now.w.0) (c.in-Ok.ensures.end (rest_of c.args.tables.now c.args.journal.now.events)) ∙ written-end c.args.write.now.w.0 (waits w.control c.args.write.now.volume.0 c.args.write.now.track)

pub returns-in-Ok-clause-ready : goal.returns-in-Ok-clause-ready
returns-in-Ok-clause-ready g c =
    let e = c.in-Ok.ensures.wrote in
    ready-after c.args.config.now (g.P.Plant.state c.args.plant.now) (g.P.Plant.state c.place_write.new.plant) (record c.args.tables.now { host = c.place_write.new.host }) c.place_write.new.journal.events c.requires.ready.reads e.at.rest e.unarmed e.told

pub returns-in-Ok-clause-faults : goal.returns-in-Ok-clause-faults
returns-in-Ok-clause-faults g c =
    let s = g.P.Plant.state c.args.plant.now in let u = g.P.Plant.state c.place_write.new.plant in
    calm-counts _ s u (ap is_stopped c.answer.ensures ∙ written-calm c.args.write.now.w.0 c.in-Ok.end) c.in-Ok.ensures.wrote.faults

pub returns-in-Ok-clause-carried : goal.returns-in-Ok-clause-carried
returns-in-Ok-clause-carried g c = c.in-Ok.ensures.wrote.carried (rest_of c.args.tables.now c.args.journal.now.events)

pub returns-in-Err-clause-ready : goal.returns-in-Err-clause-ready
returns-in-Err-clause-ready g c =
    let e = c.in-Err.ensures.wrote in
    ready-after c.args.config.now (g.P.Plant.state c.args.plant.now) (g.P.Plant.state c.place_write.new.plant) (record c.args.tables.now { host = c.place_write.new.host }) c.place_write.new.journal.events c.requires.ready.reads e.at.rest e.unarmed e.told

pub returns-in-Err-clause-carried : goal.returns-in-Err-clause-carried
returns-in-Err-clause-carried g c = c.in-Err.ensures.wrote.carried (rest_of c.args.tables.now c.args.journal.now.events)
