use Rattle.std.proofs.Common.{sym, refl, ◌+◌, length}
use Rattle.dr_ids.specs.declared.refusal.Refusal.TheVariants.{JournalFull}
use Rattle.dr_steps.specs.Here.{here}
use Rattle.dr_steps.proofs.StepTaskLemmas.{compare-full, refused-task, refused-told, refused-faults}
use Rattle.dr_logic.proofs.Results.{err-always}
use Rattle.dr_steps.proofs.WantLemmas.{not-both, step-full, compare-room}
use Rattle.dr_steps.proofs.comparing.carry_compare.Goals as goal

pub returns-then-not-has_room-clause-task : goal.returns-then-not-has_room-clause-task
returns-then-not-has_room-clause-task g c =
    let s = g.P.Plant.state c.args.plant.now in let t = c.args.config.now in let h = c.args.tables.now in let ev = c.args.journal.now.events in
    refused-task c.args.number JournalFull ev c.refuse.new.journal.events c.refuse.result s t h
    (compare-full (here s t h ev) c.args.number c.args.v.0 c.args.u.0 (sym c.if-not-has_room.ensures)) c.refuse.ensures.told

pub returns-then-not-has_room-clause-ready : goal.returns-then-not-has_room-clause-ready
returns-then-not-has_room-clause-ready g c = record {
  rest = c.requires.ready.rest;
  reads = c.requires.ready.reads;
  told = refused-told c.args.number JournalFull c.args.journal.now.events c.refuse.new.journal.events c.refuse.result c.args.tables.now c.refuse.ensures.told c.refuse.ensures.same c.requires.ready.told;
}

pub returns-then-not-has_room-clause-faults : goal.returns-then-not-has_room-clause-faults
returns-then-not-has_room-clause-faults g c f before =
    refused-faults c.args.number JournalFull c.args.journal.now.events c.refuse.new.journal.events c.refuse.result f (g.P.Plant.state c.args.plant.now).faults refl c.refuse.ensures.told c.refuse.ensures.same before

pub returns-then-not-has_room-clause-wanted : goal.returns-then-not-has_room-clause-wanted
returns-then-not-has_room-clause-wanted g c = not-both c.refuse.result _ (c.refuse.ensures.full c.requires.below (step-full c.args.journal.now.events (sym c.if-not-has_room.ensures)))

pub returns-in_err-reserve-clause-wanted : goal.returns-in_err-reserve-clause-wanted
returns-in_err-reserve-clause-wanted g c =
    let w = here (g.P.Plant.state c.args.plant.now) c.args.config.now c.args.tables.now c.args.journal.now.events in
    let held = length w.events + c.args.journal.now.spare in
    err-always c.from_residual.result (compare-room w held c.args.v.0 c.args.u.0 (sym c.if-not-has_room.ensures) c.in_err-reserve.ensures.grows)
