use Rattle.std.proofs.Common.{[], ◌∷◌, ◌++◌, ap, sym, ◌∙◌}
use Rattle.dr_model.specs.Control.{World}
use Rattle.dr_model.specs.Answers.{answer}
use Rattle.dr_model.specs.Runs.{said}
use Rattle.dr_model.specs.declared.step.Step.TheVariants.{Compare}
use Rattle.dr_steps.specs.Here.{here, said_of}
use Rattle.dr_steps.proofs.CountLemmas.{before-step}
use Rattle.dr_steps.proofs.LossLemmas.{lost-here}
use Rattle.dr_steps.proofs.StepTaskLemmas.{told-answer, task-compared, faults-step}
use Rattle.dr_steps.proofs.comparing.compare_answered.Goals as goal

pub returns-clause-task : goal.returns-clause-task
returns-clause-task g c =
    let s = g.P.Plant.state c.args.plant.now in let u = g.P.Plant.state c.compare-compared.new.plant in let t = c.args.config.now in
    let h = c.args.tables.now in let mid = c.compare-compared.new.journal.events in let a = said_of c.compare-compared.result in
    let w = here s t h c.args.journal.now.events in
    task-compared w c.args.number c.args.v.0 c.args.u.0 (said (here u t h mid) c.args.number a) c.requires.has_room (c.compare-compared.ensures.step c.args.number)
    ∙ sym (lost-here s u t h (mid ++ answer c.args.number a ∷ []) c.lose_masters.new.sessions c.lose_masters.new.flight (c.lose_masters.ensures.sessions s c.servers_on-before.ensures) (c.lose_masters.ensures.flight s c.servers_on-before.ensures))
    ∙ ap (here u t (record h { sessions = c.lose_masters.new.sessions; flight = c.lose_masters.new.flight })) (ap (λ a. mid ++ answer c.args.number a ∷ []) (sym c.answer_by.ensures) ∙ sym c.say.ensures.events)

pub returns-clause-ready : goal.returns-clause-ready
returns-clause-ready g c = record {
  rest = c.compare-compared.ensures.ready.rest;
  reads = c.compare-compared.ensures.ready.reads;
  told = told-answer c.args.tables.now c.compare-compared.new.journal.events c.say.new.journal.events c.args.number c.answer_by.result c.say.ensures.events c.compare-compared.ensures.ready.told;
}

pub returns-clause-faults : goal.returns-clause-faults
returns-clause-faults g c f before =
    let s = g.P.Plant.state c.args.plant.now in let u = g.P.Plant.state c.compare-compared.new.plant in let t = c.args.config.now in
    let h = c.args.tables.now in let mid = c.compare-compared.new.journal.events in let a = said_of c.compare-compared.result in
    let w = here s t h c.args.journal.now.events in
    let led = task-compared w c.args.number c.args.v.0 c.args.u.0 (said (here u t h mid) c.args.number a) c.requires.has_room (c.compare-compared.ensures.step c.args.number) in
    faults-step w c.args.number (Compare c.args.v.0 c.args.u.0) (here u t h mid) a c.say.new.journal.events f s.faults u.faults
    (ap (λ (x : World). x.events) led) (c.say.ensures.events ∙ ap (λ a. mid ++ answer c.args.number a ∷ []) c.answer_by.ensures) c.compare-compared.ensures.faults before

pub lose_masters-requires : goal.lose_masters-requires
lose_masters-requires g c =
    let w = here (g.P.Plant.state c.args.plant.now) c.args.config.now c.args.tables.now c.args.journal.now.events in
    record { count = (before-step w c.requires.has_room c.requires.counted).epochs }
