use Rattle.std.proofs.Common.{ap, sym, ◌∙◌}
use Rattle.dr_model.specs.Plans.{plan_of, make_flash_plan}
use Rattle.dr_model.specs.Runs.{after_plan}
use Rattle.dr_steps.specs.Here.{here}
use Rattle.dr_steps.proofs.StepTaskLemmas.{none-relation}
use Rattle.dr_steps.proofs.forms.carry_relation.Goals as goal

pub returns-in-MakeFlash-clause-step : goal.returns-in-MakeFlash-clause-step
returns-in-MakeFlash-clause-step g c line =
    let w = here (g.P.Plant.state c.args.plant.now) c.args.config.now c.args.tables.now c.args.journal.now.events in
    ap (λ x. after_plan w line (plan_of w.control w.events line x)) c.in-MakeFlash.is
    ∙ ap (λ n. after_plan w line (make_flash_plan w.control c.in-MakeFlash.devs.dev c.in-MakeFlash.s c.in-MakeFlash.t c.in-MakeFlash.freeze (record { nocopy = c.in-MakeFlash.nocopy; persistent = c.in-MakeFlash.persistent; recorded = c.in-MakeFlash.recorded; inhibited = c.in-MakeFlash.inhibited; sequence = n }))) (sym c.unwrap_or.ensures)
    ∙ c.make_flash.ensures.step line

pub returns-in-RemoveFlash-clause-step : goal.returns-in-RemoveFlash-clause-step
returns-in-RemoveFlash-clause-step g c line =
    let w = here (g.P.Plant.state c.args.plant.now) c.args.config.now c.args.tables.now c.args.journal.now.events in
    ap (λ x. after_plan w line (plan_of w.control w.events line x)) c.in-RemoveFlash.is
    ∙ c.remove_flash.ensures.step line

pub returns-in-ResyncFlash-clause-step : goal.returns-in-ResyncFlash-clause-step
returns-in-ResyncFlash-clause-step g c line =
    let w = here (g.P.Plant.state c.args.plant.now) c.args.config.now c.args.tables.now c.args.journal.now.events in
    ap (λ x. after_plan w line (plan_of w.control w.events line x)) c.in-ResyncFlash.is
    ∙ c.resync_flash.ensures.step line

pub returns-in-ReverseFlash-clause-step : goal.returns-in-ReverseFlash-clause-step
returns-in-ReverseFlash-clause-step g c line =
    let w = here (g.P.Plant.state c.args.plant.now) c.args.config.now c.args.tables.now c.args.journal.now.events in
    ap (λ x. after_plan w line (plan_of w.control w.events line x)) c.in-ReverseFlash.is
    ∙ c.reverse_flash.ensures.step line

pub returns-in-UnfreezeFlash-clause-step : goal.returns-in-UnfreezeFlash-clause-step
returns-in-UnfreezeFlash-clause-step g c line =
    let w = here (g.P.Plant.state c.args.plant.now) c.args.config.now c.args.tables.now c.args.journal.now.events in
    ap (λ x. after_plan w line (plan_of w.control w.events line x)) c.in-UnfreezeFlash.is
    ∙ c.unfreeze_flash.ensures.step line

pub carry_pair-requires-clause-other : goal.carry_pair-requires-clause-other
carry_pair-requires-clause-other g c = none-relation c.args.step.now c.in_default.not-MakeFlash c.in_default.not-RemoveFlash c.in_default.not-ResyncFlash c.in_default.not-ReverseFlash c.in_default.not-UnfreezeFlash c.in_default.not-Copy c.in_default.not-Destage
