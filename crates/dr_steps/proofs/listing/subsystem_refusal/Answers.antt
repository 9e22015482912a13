use Rattle.std.proofs.Common.{ap, sym, ◌∙◌}
use Rattle.dr_model.specs.Listings.{lists}
use Rattle.dr_model.specs.PlanParts.{unless}
use Rattle.dr_model.specs.Runs.{after_plan}
use Rattle.dr_model.proofs.CarryLemmas.{plan-refuses}
use Rattle.dr_model.specs.SessionPlans.{name_refusal}
use Rattle.dr_model.specs.declared.said.Said.TheVariants.{Refused}
use Rattle.dr_model.specs.Runs.{said}
use Rattle.dr_steps.specs.Here.{here}
use Rattle.dr_steps.proofs.PathLemmas.{owner-nowhere, owner-there}
use Rattle.dr_steps.proofs.listing.subsystem_refusal.Goals as goal

pub returns-in_default-clause-plan : goal.returns-in_default-clause-plan
returns-in_default-clause-plan c x h events told line =
    let t = c.args.config.now in
    let w = here x t h events in
    owner-nowhere x t h events line c.in_default.ensures.sound c.args.l.0 (λ owner. unless (name_refusal w.control c.args.dev.now owner) (lists told)) (sym c.in_default.ensures.value)
    ∙ ap (λ r. said w line (Refused r)) (sym c.unknown_lss.ensures) ∙ sym (plan-refuses w line c.unknown_lss.result)

pub returns-clause-plan : goal.returns-clause-plan
returns-clause-plan c x h events told line =
    let t = c.args.config.now in
    let w = here x t h events in
    owner-there x t h events line c.in-Some.ensures.sound c.args.l.0 c.in-Some.owner.0 (λ owner. unless (name_refusal w.control c.args.dev.now owner) (lists told)) (sym c.in-Some.ensures.value)
    ∙ ap (λ o. after_plan w line (unless o (lists told))) (sym (c.name_refusal.ensures.refusal x h events))
