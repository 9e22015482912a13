use Rattle.std.proofs.Common.{sym, refl, subst, ◌+◌, length}
use Rattle.dr_ids.specs.declared.refusal.Refusal.TheVariants.{JournalFull}
use Rattle.dr_steps.specs.Here.{here}
use Rattle.dr_steps.proofs.StepTaskLemmas.{task-full, refused-task, refused-told, refused-faults}
use Rattle.dr_steps.proofs.WellFormedLemmas.{written-fits}
use Rattle.std.proofs.lemmas.Result.{on_err_weaker}
use Rattle.std.specs.Prelude.{OnErr}
use Rattle.dr_steps.specs.Wants.{WantsRow}
use Rattle.dr_logic.proofs.Results.{err-always}
use Rattle.dr_steps.proofs.WantLemmas.{not-both, step-full, alone-room, alone-row}
use Rattle.dr_steps.proofs.task.carry_alone.Goals as goal

pub returns-then-not-has_room-clause-task : goal.returns-then-not-has_room-clause-task
returns-then-not-has_room-clause-task g c =
    let w = here (g.P.Plant.state c.args.plant.now) c.args.config.now c.args.tables.now c.args.journal.now.events in
    refused-task c.args.number JournalFull c.args.journal.now.events c.refuse.new.journal.events c.refuse.result (g.P.Plant.state c.args.plant.now) c.args.config.now c.args.tables.now (task-full w c.args.number c.args.step.now c.requires.alone (sym c.if-not-has_room.ensures)) c.refuse.ensures.told

pub returns-then-not-has_room-clause-ready : goal.returns-then-not-has_room-clause-ready
returns-then-not-has_room-clause-ready g c = record {
  rest = c.requires.ready.rest;
  reads = c.requires.ready.reads;
  told = refused-told c.args.number JournalFull c.args.journal.now.events c.refuse.new.journal.events c.refuse.result c.args.tables.now c.refuse.ensures.told c.refuse.ensures.same c.requires.ready.told;
}

pub returns-then-not-has_room-clause-faults : goal.returns-then-not-has_room-clause-faults
returns-then-not-has_room-clause-faults g c f before =
    refused-faults c.args.number JournalFull c.args.journal.now.events c.refuse.new.journal.events c.refuse.result f (g.P.Plant.state c.args.plant.now).faults refl c.refuse.ensures.told c.refuse.ensures.same before

pub carry_planned-requires-clause-fits : goal.carry_planned-requires-clause-fits
carry_planned-requires-clause-fits g c = written-fits c.args.step.now c.requires.written

pub returns-then-not-has_room-clause-wanted : goal.returns-then-not-has_room-clause-wanted
returns-then-not-has_room-clause-wanted g c = not-both c.refuse.result _ (c.refuse.ensures.full c.requires.below (step-full c.args.journal.now.events (sym c.if-not-has_room.ensures)))

pub returns-in_err-reserve-clause-wanted : goal.returns-in_err-reserve-clause-wanted
returns-in_err-reserve-clause-wanted g c =
    let w = here (g.P.Plant.state c.args.plant.now) c.args.config.now c.args.tables.now c.args.journal.now.events in
    let held = length w.events + c.args.journal.now.spare in
    err-always c.from_residual.result (alone-room w held c.args.step.now c.requires.alone (sym c.if-not-has_room.ensures) c.in_err-reserve.ensures.grows)

pub returns-clause-wanted : goal.returns-clause-wanted
returns-clause-wanted g c =
    let w = here (g.P.Plant.state c.args.plant.now) c.args.config.now c.args.tables.now c.args.journal.now.events in
    let held = length w.events + c.args.journal.now.spare in
    on_err_weaker c.carry_planned.result (alone-row w held c.args.step.now c.requires.alone (sym c.if-not-has_room.ensures)) (subst (λ es. OnErr c.carry_planned.result (WantsRow (here (g.P.Plant.state c.args.plant.now) c.args.config.now c.args.tables.now es) c.args.step.now)) c.reserve.ensures.events c.carry_planned.ensures.wanted)
