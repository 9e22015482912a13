use Rattle.std.proofs.Common.{refl}
use Rattle.dr_steps.specs.Here.{here}
use Rattle.dr_steps.proofs.StepTaskLemmas.{none-plain, none-listing}
use Rattle.dr_steps.proofs.WidenLemmas.{widens}
use Rattle.dr_steps.proofs.task.carry_listing.Goals as goal

pub returns-in-ListPairs : goal.returns-in-ListPairs
returns-in-ListPairs g c =
    let s = g.P.Plant.state c.args.plant.now in let s' = g.P.Plant.state c.args.plant.now in
    let w = here s c.args.config.now c.args.tables.now c.args.journal.now.events in
    let u = here s' c.args.config.now c.args.tables.now c.list_pairs.new.journal.events in
    let all = widens w u s s' c.args.line c.args.step.now _ c.list_pairs.result c.widened.result c.widened.ensures c.in-ListPairs.is c.list_pairs.ensures.step c.list_pairs.ensures.faults in
    record { step = all.step; faults = all.faults; wanted = all.wanted; same = all.same; same_plant = all.same_plant; ready = c.list_pairs.ensures.ready; host = refl; room = c.list_pairs.ensures.room }

pub returns-in-ListFlashes : goal.returns-in-ListFlashes
returns-in-ListFlashes g c =
    let s = g.P.Plant.state c.args.plant.now in let s' = g.P.Plant.state c.args.plant.now in
    let w = here s c.args.config.now c.args.tables.now c.args.journal.now.events in
    let u = here s' c.args.config.now c.args.tables.now c.list_flashes.new.journal.events in
    let all = widens w u s s' c.args.line c.args.step.now _ c.list_flashes.result c.widened-in-ListFlashes.result c.widened-in-ListFlashes.ensures c.in-ListFlashes.is c.list_flashes.ensures.step c.list_flashes.ensures.faults in
    record { step = all.step; faults = all.faults; wanted = all.wanted; same = all.same; same_plant = all.same_plant; ready = c.list_flashes.ensures.ready; host = refl; room = c.list_flashes.ensures.room }

pub returns-in-ListSession : goal.returns-in-ListSession
returns-in-ListSession g c =
    let s = g.P.Plant.state c.args.plant.now in let s' = g.P.Plant.state c.args.plant.now in
    let w = here s c.args.config.now c.args.tables.now c.args.journal.now.events in
    let u = here s' c.args.config.now c.args.tables.now c.list_session.new.journal.events in
    let all = widens w u s s' c.args.line c.args.step.now _ c.list_session.result c.widened-in-ListSession.result c.widened-in-ListSession.ensures c.in-ListSession.is c.list_session.ensures.step c.list_session.ensures.faults in
    record { step = all.step; faults = all.faults; wanted = all.wanted; same = all.same; same_plant = all.same_plant; ready = c.list_session.ensures.ready; host = refl; room = c.list_session.ensures.room }

pub returns-in-ShowMirror : goal.returns-in-ShowMirror
returns-in-ShowMirror g c =
    let s = g.P.Plant.state c.args.plant.now in let s' = g.P.Plant.state c.args.plant.now in
    let w = here s c.args.config.now c.args.tables.now c.args.journal.now.events in
    let u = here s' c.args.config.now c.args.tables.now c.show_mirror.new.journal.events in
    let all = widens w u s s' c.args.line c.args.step.now _ c.show_mirror.result c.widened-in-ShowMirror.result c.widened-in-ShowMirror.ensures c.in-ShowMirror.is c.show_mirror.ensures.step c.show_mirror.ensures.faults in
    record { step = all.step; faults = all.faults; wanted = all.wanted; same = all.same; same_plant = all.same_plant; ready = c.show_mirror.ensures.ready; host = refl; room = c.show_mirror.ensures.room }

pub carry_session-requires-clause-form : goal.carry_session-requires-clause-form
carry_session-requires-clause-form g c = none-plain c.args.step.now c.requires.other c.requires.unhosted (none-listing c.args.step.now c.in_default.not-ListPairs c.in_default.not-ListFlashes c.in_default.not-ListSession c.in_default.not-ShowMirror)
