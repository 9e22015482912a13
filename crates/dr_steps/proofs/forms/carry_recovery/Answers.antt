use Rattle.std.proofs.Common.{ap, ◌∙◌}
use Rattle.dr_model.specs.Plans.{plan_of}
use Rattle.dr_model.specs.Runs.{after_plan}
use Rattle.dr_steps.specs.Here.{here}
use Rattle.dr_steps.proofs.StepTaskLemmas.{none-recovery}
use Rattle.dr_steps.proofs.forms.carry_recovery.Goals as goal

pub returns-in-Recover-clause-step : goal.returns-in-Recover-clause-step
returns-in-Recover-clause-step g c line =
    let w = here (g.P.Plant.state c.args.plant.now) c.args.config.now c.args.tables.now c.args.journal.now.events in
    ap (λ x. after_plan w line (plan_of w.control w.events line x)) c.in-Recover.is
    ∙ c.recover_session.ensures.step line

pub returns-in-CommitFlash-clause-step : goal.returns-in-CommitFlash-clause-step
returns-in-CommitFlash-clause-step g c line =
    let w = here (g.P.Plant.state c.args.plant.now) c.args.config.now c.args.tables.now c.args.journal.now.events in
    ap (λ x. after_plan w line (plan_of w.control w.events line x)) c.in-CommitFlash.is
    ∙ c.commit_flash.ensures.step line

pub returns-in-RevertFlash-clause-step : goal.returns-in-RevertFlash-clause-step
returns-in-RevertFlash-clause-step g c line =
    let w = here (g.P.Plant.state c.args.plant.now) c.args.config.now c.args.tables.now c.args.journal.now.events in
    ap (λ x. after_plan w line (plan_of w.control w.events line x)) c.in-RevertFlash.is
    ∙ c.revert_flash.ensures.step line

pub carry_relation-requires-clause-recovery : goal.carry_relation-requires-clause-recovery
carry_relation-requires-clause-recovery g c = none-recovery c.args.step.now c.in_default.not-Recover c.in_default.not-CommitFlash c.in_default.not-RevertFlash
