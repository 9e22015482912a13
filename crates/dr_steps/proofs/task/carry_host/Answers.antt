use Rattle.std.proofs.Common.{arith}
use Rattle.dr_steps.specs.Here.{here}
use Rattle.dr_steps.proofs.StepTaskLemmas.{none-hosted}
use Rattle.dr_steps.proofs.WidenLemmas.{widens, widens-answer}
use Rattle.dr_steps.proofs.task.carry_host.Goals as goal

pub returns-in-Apply : goal.returns-in-Apply
returns-in-Apply g c =
    let s = g.P.Plant.state c.args.plant.now in let s' = g.P.Plant.state c.apply.new.plant in
    let w = here s c.args.config.now c.args.tables.now c.args.journal.now.events in
    let u = here s' c.args.config.now c.apply.new.tables c.apply.new.journal.events in
    let all = widens-answer w u s s' c.args.line c.args.step.now _ c.apply.result c.answer_widened.result c.answer_widened.ensures c.in-Apply.is (c.apply.ensures.step c.args.line) c.apply.ensures.faults in
    record { step = all.step; faults = all.faults; wanted = all.wanted; same = all.same; same_plant = all.same_plant; ready = c.apply.ensures.ready; issued = let same = c.apply.ensures.issued in omega arith; room = c.apply.ensures.room }

pub returns-in-Show : goal.returns-in-Show
returns-in-Show g c =
    let s = g.P.Plant.state c.args.plant.now in let s' = g.P.Plant.state c.show.new.plant in
    let w = here s c.args.config.now c.args.tables.now c.args.journal.now.events in
    let u = here s' c.args.config.now c.args.tables.now c.show.new.journal.events in
    let all = widens w u s s' c.args.line c.args.step.now _ c.show.result c.widened.result c.widened.ensures c.in-Show.is c.show.ensures.step c.show.ensures.faults in
    record { step = all.step; faults = all.faults; wanted = all.wanted; same = all.same; same_plant = all.same_plant; ready = c.show.ensures.ready; issued = omega arith; room = c.show.ensures.room }

pub returns-in-Stop : goal.returns-in-Stop
returns-in-Stop g c =
    let s = g.P.Plant.state c.args.plant.now in let s' = g.P.Plant.state c.stop.new.plant in
    let w = here s c.args.config.now c.args.tables.now c.args.journal.now.events in
    let u = here s' c.args.config.now c.args.tables.now c.stop.new.journal.events in
    let all = widens w u s s' c.args.line c.args.step.now _ c.stop.result c.widened-in-Stop.result c.widened-in-Stop.ensures c.in-Stop.is (c.stop.ensures.step c.args.line) c.stop.ensures.faults in
    record { step = all.step; faults = all.faults; wanted = all.wanted; same = all.same; same_plant = all.same_plant; ready = c.stop.ensures.ready; issued = omega arith; room = c.stop.ensures.room }

pub returns-in-StopAfter : goal.returns-in-StopAfter
returns-in-StopAfter g c =
    let s = g.P.Plant.state c.args.plant.now in let s' = g.P.Plant.state c.arm.new.plant in
    let w = here s c.args.config.now c.args.tables.now c.args.journal.now.events in
    let u = here s' c.args.config.now c.args.tables.now c.args.journal.now.events in
    let all = widens w u s s' c.args.line c.args.step.now _ c.arm.result c.widened-in-StopAfter.result c.widened-in-StopAfter.ensures c.in-StopAfter.is (c.arm.ensures.step c.args.line) c.arm.ensures.faults in
    record { step = all.step; faults = all.faults; wanted = all.wanted; same = all.same; same_plant = all.same_plant; ready = c.arm.ensures.ready; issued = omega arith; room = let most = c.requires.room in omega arith }

pub returns-in-Start : goal.returns-in-Start
returns-in-Start g c =
    let s = g.P.Plant.state c.args.plant.now in let s' = g.P.Plant.state c.start.new.plant in
    let w = here s c.args.config.now c.args.tables.now c.args.journal.now.events in
    let u = here s' c.args.config.now c.start.new.tables c.start.new.journal.events in
    let all = widens w u s s' c.args.line c.args.step.now _ c.start.result c.widened-in-Start.result c.widened-in-Start.ensures c.in-Start.is (c.start.ensures.step c.args.line) c.start.ensures.faults in
    record { step = all.step; faults = all.faults; wanted = all.wanted; same = all.same; same_plant = all.same_plant; ready = c.start.ensures.ready; issued = let same = c.start.ensures.issued in omega arith; room = c.start.ensures.room }

pub returns-in-Expire : goal.returns-in-Expire
returns-in-Expire g c =
    let s = g.P.Plant.state c.args.plant.now in let s' = g.P.Plant.state c.expire.new.plant in
    let w = here s c.args.config.now c.args.tables.now c.args.journal.now.events in
    let u = here s' c.args.config.now c.args.tables.now c.expire.new.journal.events in
    let all = widens w u s s' c.args.line c.args.step.now _ c.expire.result c.widened-in-Expire.result c.widened-in-Expire.ensures c.in-Expire.is (c.expire.ensures.step c.args.line) c.expire.ensures.faults in
    record { step = all.step; faults = all.faults; wanted = all.wanted; same = all.same; same_plant = all.same_plant; ready = c.expire.ensures.ready; issued = omega arith; room = c.expire.ensures.room }

pub carry_listing-requires-clause-unhosted : goal.carry_listing-requires-clause-unhosted
carry_listing-requires-clause-unhosted g c = none-hosted c.args.step.now c.in_default.not-Issue c.in_default.not-Write c.in_default.not-Apply c.in_default.not-Show c.in_default.not-Stop c.in_default.not-StopAfter c.in_default.not-Start c.in_default.not-Expire
