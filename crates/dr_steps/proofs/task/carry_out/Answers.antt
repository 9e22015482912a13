use Rattle.std.proofs.Common.{arith}
use Rattle.dr_steps.specs.Here.{here}
use Rattle.dr_steps.proofs.StepTaskLemmas.{none-defining}
use Rattle.dr_steps.proofs.WidenLemmas.{widens}
use Rattle.dr_steps.proofs.task.carry_out.Goals as goal

pub returns-in-Link : goal.returns-in-Link
returns-in-Link g c =
    let s = g.P.Plant.state c.args.plant.now in let s' = g.P.Plant.state c.args.plant.now in
    let w = here s c.args.config.now c.args.tables.now c.args.journal.now.events in
    let u = here s' c.set_link.new.config c.args.tables.now c.args.journal.now.events in
    let all = widens w u s s' c.args.line c.args.step.now _ c.set_link.result c.widened.result c.widened.ensures c.in-Link.is (c.set_link.ensures.step c.args.line) c.set_link.ensures.faults in
    record { step = all.step; faults = all.faults; wanted = all.wanted; same = all.same; same_plant = all.same_plant; ready = c.set_link.ensures.ready; issued = omega arith; room = let most = c.requires.room in omega arith }

pub returns-in-RemovePath : goal.returns-in-RemovePath
returns-in-RemovePath g c =
    let s = g.P.Plant.state c.args.plant.now in let s' = g.P.Plant.state c.args.plant.now in
    let w = here s c.args.config.now c.args.tables.now c.args.journal.now.events in
    let u = here s' c.remove_path.new.config c.args.tables.now c.args.journal.now.events in
    let all = widens w u s s' c.args.line c.args.step.now _ c.remove_path.result c.widened-in-RemovePath.result c.widened-in-RemovePath.ensures c.in-RemovePath.is (c.remove_path.ensures.step c.args.line) c.remove_path.ensures.faults in
    record { step = all.step; faults = all.faults; wanted = all.wanted; same = all.same; same_plant = all.same_plant; ready = c.remove_path.ensures.ready; issued = omega arith; room = let most = c.requires.room in omega arith }

pub returns-in-Freeze : goal.returns-in-Freeze
returns-in-Freeze g c =
    let s = g.P.Plant.state c.args.plant.now in let s' = g.P.Plant.state c.freeze.new.plant in
    let w = here s c.args.config.now c.args.tables.now c.args.journal.now.events in
    let u = here s' c.freeze.new.config c.args.tables.now c.freeze.new.journal.events in
    let all = widens w u s s' c.args.line c.args.step.now _ c.freeze.result c.widened-in-Freeze.result c.widened-in-Freeze.ensures c.in-Freeze.is (c.freeze.ensures.step c.args.line) c.freeze.ensures.faults in
    record { step = all.step; faults = all.faults; wanted = all.wanted; same = all.same; same_plant = all.same_plant; ready = c.freeze.ensures.ready; issued = omega arith; room = c.freeze.ensures.room }

pub returns-in-Unfreeze : goal.returns-in-Unfreeze
returns-in-Unfreeze g c =
    let s = g.P.Plant.state c.args.plant.now in let s' = g.P.Plant.state c.unfreeze.new.plant in
    let w = here s c.args.config.now c.args.tables.now c.args.journal.now.events in
    let u = here s' c.args.config.now c.args.tables.now c.unfreeze.new.journal.events in
    let all = widens w u s s' c.args.line c.args.step.now _ c.unfreeze.result c.widened-in-Unfreeze.result c.widened-in-Unfreeze.ensures c.in-Unfreeze.is (c.unfreeze.ensures.step c.args.line) c.unfreeze.ensures.faults in
    record { step = all.step; faults = all.faults; wanted = all.wanted; same = all.same; same_plant = all.same_plant; ready = c.unfreeze.ensures.ready; issued = omega arith; room = c.unfreeze.ensures.room }

pub carry_host-requires-clause-other : goal.carry_host-requires-clause-other
carry_host-requires-clause-other g c = none-defining c.args.step.now c.in_default.not-Server c.in_default.not-Volume c.in_default.not-Link c.in_default.not-MakePath c.in_default.not-RemovePath c.in_default.not-Freeze c.in_default.not-Unfreeze
