use Rattle.std.proofs.Common.{◌∙◌, sym}
use Rattle.dr_steps.specs.Here.{here}
use Rattle.dr_steps.proofs.CountLemmas.{before-step, behind-plan}
use Rattle.dr_steps.proofs.LossLemmas.{lost-here}
use Rattle.dr_steps.proofs.StepTaskLemmas.{task-planned}
use Rattle.dr_steps.proofs.task.carry_planned.Goals as goal

pub carry_answered-requires-clause-counts : goal.carry_answered-requires-clause-counts
carry_answered-requires-clause-counts g c =
    before-step (here (g.P.Plant.state c.args.plant.now) c.args.config.now c.args.tables.now c.args.journal.now.events) c.requires.has_room c.requires.counted

pub lose_masters-requires : goal.lose_masters-requires
lose_masters-requires g c =
    let w = here (g.P.Plant.state c.args.plant.now) c.args.config.now c.args.tables.now c.args.journal.now.events in
    let u = here (g.P.Plant.state c.carry_answered.new.plant) c.carry_answered.new.config c.carry_answered.new.tables c.carry_answered.new.journal.events in
    record { count = (behind-plan w u c.args.number c.args.step.now c.requires.has_room c.requires.counted c.in-Ok.ensures.plan).epochs }

pub returns-in-Ok-clause-task : goal.returns-in-Ok-clause-task
returns-in-Ok-clause-task g c =
    let s = g.P.Plant.state c.args.plant.now in let u = g.P.Plant.state c.carry_answered.new.plant in let t = c.carry_answered.new.config in
    let h = c.carry_answered.new.tables in let ev = c.carry_answered.new.journal.events in
    let w = here s c.args.config.now c.args.tables.now c.args.journal.now.events in
    task-planned w c.args.number c.args.step.now (here u t h ev) c.requires.alone c.requires.has_room c.in-Ok.ensures.plan
    ∙ sym (lost-here s u t h ev c.lose_masters.new.sessions c.lose_masters.new.flight (c.lose_masters.ensures.sessions s c.servers_on-before.ensures) (c.lose_masters.ensures.flight s c.servers_on-before.ensures))
