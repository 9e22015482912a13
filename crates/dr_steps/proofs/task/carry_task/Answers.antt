use Rattle.std.proofs.Common.{◌≡◌, ◌+◌, ap, refl, subst, sym, length, Ok, Some}
use Rattle.std.specs.Prelude.{OnOk, OnErr}
use Rattle.dr_model.specs.Listed.{Lists, task_on}
use Rattle.dr_model.specs.Runs.{Groups, Volumes, after_task, Task, own_course}
use Rattle.dr_model.specs.declared.step.Step.{Step}
use Rattle.dr_moves.proofs.TurnLemmas.{ok-along}
use Rattle.dr_steps.specs.Here.{here}
use Rattle.dr_steps.specs.Wants.{WantsMemory}
use Rattle.dr_steps.proofs.StepTaskLemmas.{none-apart, lists-nothing, lists-none, no-devices}
use Rattle.dr_steps.proofs.task.carry_task.Goals as goal

pub returns-in-Run-clause-task : goal.returns-in-Run-clause-task
returns-in-Run-clause-task g c =
    let s = g.P.Plant.state c.args.plant.now in let u = g.P.Plant.state c.carry_run.new.plant in let t = c.args.config.now in
    let w = here s t c.args.tables.now c.args.journal.now.events in
    subst (λ (x : Step). OnOk c.carry_run.result (after_task w (task_on w s.block c.args.number (Ok x)) ≡ here u t c.carry_run.new.tables c.carry_run.new.journal.events))
    (sym c.in-Run.is) c.carry_run.ensures.task

pub returns-in-Run-clause-lists : goal.returns-in-Run-clause-lists
returns-in-Run-clause-lists g c =
    let s = g.P.Plant.state c.args.plant.now in
    let w = here s c.args.config.now c.args.tables.now c.args.journal.now.events in
    ok-along c.carry_run.result c.carry_run.ensures.task (λ done. subst (λ (x : Step). Lists w (task_on w s.block c.args.number (Ok x))) (sym c.in-Run.is) refl)

pub returns-in-Run-clause-still : goal.returns-in-Run-clause-still
returns-in-Run-clause-still g c = ok-along c.carry_run.result c.carry_run.ensures.task (λ done. no-devices c.args.step.now (Some (Groups c.in-Run.session c.in-Run.groups)) (ap (λ x. own_course (Ok x)) c.in-Run.is) (λ same. cc same))

pub returns-in-Compare-clause-task : goal.returns-in-Compare-clause-task
returns-in-Compare-clause-task g c =
    let s = g.P.Plant.state c.args.plant.now in let u = g.P.Plant.state c.carry_compare.new.plant in let t = c.args.config.now in
    let w = here s t c.args.tables.now c.args.journal.now.events in
    subst (λ (x : Step). OnOk c.carry_compare.result (after_task w (task_on w s.block c.args.number (Ok x)) ≡ here u t c.carry_compare.new.tables c.carry_compare.new.journal.events))
    (sym c.in-Compare.is) c.carry_compare.ensures.task

pub returns-in-Compare-clause-lists : goal.returns-in-Compare-clause-lists
returns-in-Compare-clause-lists g c =
    let s = g.P.Plant.state c.args.plant.now in
    let w = here s c.args.config.now c.args.tables.now c.args.journal.now.events in
    ok-along c.carry_compare.result c.carry_compare.ensures.task (λ done. subst (λ (x : Step). Lists w (task_on w s.block c.args.number (Ok x))) (sym c.in-Compare.is) refl)

pub returns-in-Compare-clause-still : goal.returns-in-Compare-clause-still
returns-in-Compare-clause-still g c = ok-along c.carry_compare.result c.carry_compare.ensures.task (λ done. no-devices c.args.step.now (Some (Volumes c.in-Compare.v c.in-Compare.w)) (ap (λ x. own_course (Ok x)) c.in-Compare.is) (λ same. cc same))

pub returns-in-Image-clause-task : goal.returns-in-Image-clause-task
returns-in-Image-clause-task g c =
    let s = g.P.Plant.state c.args.plant.now in let t = c.args.config.now in let h = c.args.tables.now in
    let w = here s t h c.args.journal.now.events in
    subst (λ (x : Step). OnOk c.carry_image.result (after_task w (task_on w s.block c.args.number (Ok x)) ≡ here s t h c.carry_image.new.journal.events)) (sym c.in-Image.is) c.carry_image.ensures.task

pub returns-in-Image-clause-lists : goal.returns-in-Image-clause-lists
returns-in-Image-clause-lists g c =
    let s = g.P.Plant.state c.args.plant.now in
    let w = here s c.args.config.now c.args.tables.now c.args.journal.now.events in
    subst (λ (x : Step). OnOk c.carry_image.result (Lists w (task_on w s.block c.args.number (Ok x)))) (sym c.in-Image.is) c.carry_image.ensures.lists

pub returns-in-Image-clause-still : goal.returns-in-Image-clause-still
returns-in-Image-clause-still g c = ok-along c.carry_image.result c.carry_image.ensures.task (λ done. λ same. refl)

pub carry_alone-requires-clause-alone : goal.carry_alone-requires-clause-alone
carry_alone-requires-clause-alone g c = none-apart c.args.step.now c.in_default.not-Run c.in_default.not-Compare c.in_default.not-Image

pub returns-in_default-clause-task : goal.returns-in_default-clause-task
returns-in_default-clause-task g c =
    let s = g.P.Plant.state c.args.plant.now in let u = g.P.Plant.state c.carry_alone.new.plant in
    let w = here s c.args.config.now c.args.tables.now c.args.journal.now.events in
    let alone = none-apart c.args.step.now c.in_default.not-Run c.in_default.not-Compare c.in_default.not-Image in
    subst (λ (x : Task). OnOk c.carry_alone.result (after_task w x ≡ here u c.carry_alone.new.config c.carry_alone.new.tables c.carry_alone.new.journal.events))
    (lists-nothing w s.block c.args.number c.args.step.now alone) c.carry_alone.ensures.task

pub returns-in_default-clause-lists : goal.returns-in_default-clause-lists
returns-in_default-clause-lists g c =
    let s = g.P.Plant.state c.args.plant.now in
    let w = here s c.args.config.now c.args.tables.now c.args.journal.now.events in
    ok-along c.carry_alone.result c.carry_alone.ensures.task (λ done. lists-none w s.block c.args.number c.args.step.now (none-apart c.args.step.now c.in_default.not-Run c.in_default.not-Compare c.in_default.not-Image))

pub returns-in_default-clause-still : goal.returns-in_default-clause-still
returns-in_default-clause-still g c =
    ok-along c.carry_alone.result c.carry_alone.ensures.task (λ done. no-devices c.args.step.now _ (none-apart c.args.step.now c.in_default.not-Run c.in_default.not-Compare c.in_default.not-Image) (λ same. cc same))

pub returns-in-Run-clause-wanted : goal.returns-in-Run-clause-wanted
returns-in-Run-clause-wanted g c =
    let w = here (g.P.Plant.state c.args.plant.now) c.args.config.now c.args.tables.now c.args.journal.now.events in
    subst (λ (x : Step). OnErr c.carry_run.result (WantsMemory w (Ok x) (length w.events + c.args.journal.now.spare))) (sym c.in-Run.is) (c.carry_run.ensures.wanted)

pub returns-in-Compare-clause-wanted : goal.returns-in-Compare-clause-wanted
returns-in-Compare-clause-wanted g c =
    let w = here (g.P.Plant.state c.args.plant.now) c.args.config.now c.args.tables.now c.args.journal.now.events in
    subst (λ (x : Step). OnErr c.carry_compare.result (WantsMemory w (Ok x) (length w.events + c.args.journal.now.spare))) (sym c.in-Compare.is) (c.carry_compare.ensures.wanted)

pub returns-in-Image-clause-wanted : goal.returns-in-Image-clause-wanted
returns-in-Image-clause-wanted g c =
    let w = here (g.P.Plant.state c.args.plant.now) c.args.config.now c.args.tables.now c.args.journal.now.events in
    subst (λ (x : Step). OnErr c.carry_image.result (WantsMemory w (Ok x) (length w.events + c.args.journal.now.spare))) (sym c.in-Image.is) (c.carry_image.ensures.wanted c.requires.below)
