use Rattle.std.proofs.Common.{ap, ◌∙◌}
use Rattle.dr_model.specs.Plans.{plan_of}
use Rattle.dr_model.specs.Runs.{after_plan}
use Rattle.dr_steps.specs.Here.{here}
use Rattle.dr_steps.proofs.CarriesLemmas.{carries-plan}
use Rattle.dr_steps.proofs.StepTaskLemmas.{none-pair}
use Rattle.dr_steps.proofs.forms.carry_pair.Goals as goal

pub returns-in-MakePair-clause-step : goal.returns-in-MakePair-clause-step
returns-in-MakePair-clause-step g c line =
    let w = here (g.P.Plant.state c.args.plant.now) c.args.config.now c.args.tables.now c.args.journal.now.events in
    ap (λ x. after_plan w line (plan_of w.control w.events line x)) c.in-MakePair.is
    ∙ c.make_pair.ensures.step line

pub returns-in-RemovePair-clause-step : goal.returns-in-RemovePair-clause-step
returns-in-RemovePair-clause-step g c line =
    let w = here (g.P.Plant.state c.args.plant.now) c.args.config.now c.args.tables.now c.args.journal.now.events in
    ap (λ x. after_plan w line (plan_of w.control w.events line x)) c.in-RemovePair.is
    ∙ c.remove_pair.ensures.step line

pub returns-in-PausePair-clause-step : goal.returns-in-PausePair-clause-step
returns-in-PausePair-clause-step g c line =
    let w = here (g.P.Plant.state c.args.plant.now) c.args.config.now c.args.tables.now c.args.journal.now.events in
    ap (λ x. after_plan w line (plan_of w.control w.events line x)) c.in-PausePair.is
    ∙ c.pause_pair.ensures.step line

pub returns-in-ResumePair-clause-step : goal.returns-in-ResumePair-clause-step
returns-in-ResumePair-clause-step g c line =
    let w = here (g.P.Plant.state c.args.plant.now) c.args.config.now c.args.tables.now c.args.journal.now.events in
    ap (λ x. after_plan w line (plan_of w.control w.events line x)) c.in-ResumePair.is
    ∙ c.resume_pair.ensures.step line

pub returns-in-Drain-clause-step : goal.returns-in-Drain-clause-step
returns-in-Drain-clause-step g c line =
    let w = here (g.P.Plant.state c.args.plant.now) c.args.config.now c.args.tables.now c.args.journal.now.events in
    ap (λ x. after_plan w line (plan_of w.control w.events line x)) c.in-Drain.is
    ∙ carries-plan w _ _ _ c.drain.ensures.step line

pub carry_return-requires-clause-pair : goal.carry_return-requires-clause-pair
carry_return-requires-clause-pair g c = none-pair c.args.step.now c.in_default.not-MakePair c.in_default.not-RemovePair c.in_default.not-PausePair c.in_default.not-ResumePair c.in_default.not-Drain
