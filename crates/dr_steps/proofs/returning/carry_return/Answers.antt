use Rattle.std.proofs.Common.{ap, ◌∙◌}
use Rattle.dr_model.specs.Plans.{plan_of}
use Rattle.dr_model.specs.Runs.{after_plan}
use Rattle.dr_model.specs.declared.said.Addition.TheVariants.{Alone}
use Rattle.dr_model.specs.declared.said.Said.TheVariants.{Done}
use Rattle.dr_model.proofs.CarryLemmas.{plan-says}
use Rattle.dr_steps.specs.Here.{here}
use Rattle.dr_steps.proofs.StepTaskLemmas.{plan-else}
use Rattle.dr_steps.proofs.returning.carry_return.Goals as goal

pub returns-in-Failover-clause-step : goal.returns-in-Failover-clause-step
returns-in-Failover-clause-step g c line =
    let w = here (g.P.Plant.state c.args.plant.now) c.args.config.now c.args.tables.now c.args.journal.now.events in
    ap (λ x. after_plan w line (plan_of w.control w.events line x)) c.in-Failover.is
    ∙ c.fail_over.ensures.step line

pub returns-in-Failback-clause-step : goal.returns-in-Failback-clause-step
returns-in-Failback-clause-step g c line =
    let w = here (g.P.Plant.state c.args.plant.now) c.args.config.now c.args.tables.now c.args.journal.now.events in
    ap (λ x. after_plan w line (plan_of w.control w.events line x)) c.in-Failback.is
    ∙ c.fail_back.ensures.step line

pub returns-in_default-clause-step : goal.returns-in_default-clause-step
returns-in_default-clause-step g c line =
    let w = here (g.P.Plant.state c.args.plant.now) c.args.config.now c.args.tables.now c.args.journal.now.events in
    ap (after_plan w line) (plan-else w.control w.events line c.args.step.now c.requires.form c.requires.session c.requires.recovery c.requires.other c.requires.pair c.in_default.not-Failover c.in_default.not-Failback)
    ∙ plan-says w line (Done Alone)
