use Rattle.std.proofs.Common.{subst, ap, Err}
use Rattle.dr_model.specs.Control.{World}
use Rattle.dr_model.specs.declared.said.Said.TheVariants.{Refused}
use Rattle.dr_model.specs.Runs.{said}
use Rattle.dr_steps.specs.Faults.{CountsStop}
use Rattle.dr_steps.specs.Here.{here, OnSaid, StepLeads}
use Rattle.dr_steps.proofs.StepTaskLemmas.{told-answer, task-planned, faults-step}
use Rattle.dr_steps.proofs.task.carry_answered.Goals as goal

pub returns-in-Ok-clause-ready : goal.returns-in-Ok-clause-ready
returns-in-Ok-clause-ready g c = record {
  rest = c.in-Ok.ensures.ready.rest;
  reads = c.in-Ok.ensures.ready.reads;
  told = told-answer c.carry_out.new.tables c.carry_out.new.journal.events c.say.new.journal.events c.args.number c.in-Ok.answer c.say.ensures.events c.in-Ok.ensures.ready.told;
}

pub returns-in-Ok-clause-faults : goal.returns-in-Ok-clause-faults
returns-in-Ok-clause-faults g c f before =
    let w = here (g.P.Plant.state c.args.plant.now) c.args.config.now c.args.tables.now c.args.journal.now.events in
    let u = here (g.P.Plant.state c.carry_out.new.plant) c.carry_out.new.config c.carry_out.new.tables c.carry_out.new.journal.events in
    faults-step w c.args.number c.args.step.now u c.in-Ok.answer c.say.new.journal.events f (g.P.Plant.state c.args.plant.now).faults (g.P.Plant.state c.carry_out.new.plant).faults
    (ap (λ (x : World). x.events) (task-planned w c.args.number c.args.step.now (said u c.args.number c.in-Ok.answer) c.requires.alone c.requires.has_room c.in-Ok.ensures.step)) c.say.ensures.events c.in-Ok.ensures.faults before

pub returns-in-Err-Refused-clause-ready : goal.returns-in-Err-Refused-clause-ready
returns-in-Err-Refused-clause-ready g c = record {
  rest = c.in-Err-Refused.ensures.ready.rest;
  reads = c.in-Err-Refused.ensures.ready.reads;
  told = told-answer c.carry_out.new.tables c.carry_out.new.journal.events c.say-in-Err-Refused.new.journal.events c.args.number (Refused c.in-Err-Refused.refusal) c.say-in-Err-Refused.ensures.events c.in-Err-Refused.ensures.ready.told;
}

pub returns-in-Err-Refused-clause-faults : goal.returns-in-Err-Refused-clause-faults
returns-in-Err-Refused-clause-faults g c f before =
    let w = here (g.P.Plant.state c.args.plant.now) c.args.config.now c.args.tables.now c.args.journal.now.events in
    let u = here (g.P.Plant.state c.carry_out.new.plant) c.carry_out.new.config c.carry_out.new.tables c.carry_out.new.journal.events in
    let step = subst (λ e. OnSaid (Err e) (λ a. StepLeads w c.args.number c.args.step.now u a)) c.in-Err-Refused.field-0-is c.in-Err-Refused.ensures.step in
    let counts = subst (λ e. OnSaid (Err e) (λ a. CountsStop a (g.P.Plant.state c.args.plant.now) (g.P.Plant.state c.carry_out.new.plant))) c.in-Err-Refused.field-0-is c.in-Err-Refused.ensures.faults in
    faults-step w c.args.number c.args.step.now u (Refused c.in-Err-Refused.refusal) c.say-in-Err-Refused.new.journal.events f (g.P.Plant.state c.args.plant.now).faults (g.P.Plant.state c.carry_out.new.plant).faults
    (ap (λ (x : World). x.events) (task-planned w c.args.number c.args.step.now (said u c.args.number (Refused c.in-Err-Refused.refusal)) c.requires.alone c.requires.has_room step)) c.say-in-Err-Refused.ensures.events counts before
