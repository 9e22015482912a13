use Rattle.std.proofs.Common.{◌++◌, [], ◌∷◌, ap, sym, refl, ◌∙◌, Ok, ◌+◌, length}
use Rattle.dr_ids.specs.declared.refusal.Refusal.TheVariants.{JournalFull}
use Rattle.dr_model.specs.Answers.{answer}
use Rattle.dr_model.specs.Listed.{listing}
use Rattle.dr_model.specs.Runs.{image_told}
use Rattle.dr_model.specs.declared.said.Addition.TheVariants.{Alone}
use Rattle.dr_model.specs.declared.said.Said.TheVariants.{Done}
use Rattle.dr_laws_sound.proofs.Listed.{image-lines}
use Rattle.dr_listing.proofs.ImageLemmas.{lists-asked}
use Rattle.dr_model.specs.declared.step.Step.TheVariants.{Image}
use Rattle.dr_moves.proofs.TurnLemmas.{ok-along}
use Rattle.dr_steps.specs.Here.{here, rest_of}
use Rattle.dr_steps.proofs.ListingLemmas.{told-lines, image-done, image-full, full-lists, calm-answer}
use Rattle.dr_steps.proofs.StepTaskLemmas.{told-answer, refused-task, refused-told, refused-faults}
use Rattle.dr_logic.proofs.Results.{err-always}
use Rattle.dr_steps.proofs.WantLemmas.{not-both, image-room}
use Rattle.dr_steps.proofs.imaging.carry_image.Goals as goal

pub returns-then-not-has_room_for-clause-task : goal.returns-then-not-has_room_for-clause-task
returns-then-not-has_room_for-clause-task g c =
    let s = g.P.Plant.state c.args.plant.now in let t = c.args.config.now in let h = c.args.tables.now in let ev = c.args.journal.now.events in
    refused-task c.args.number JournalFull ev c.refuse.new.journal.events c.refuse.result s t h (image-full (here s t h ev) s.block c.args.number (sym c.if-not-has_room_for.ensures)) c.refuse.ensures.told

pub returns-then-not-has_room_for-clause-lists : goal.returns-then-not-has_room_for-clause-lists
returns-then-not-has_room_for-clause-lists g c =
    let s = g.P.Plant.state c.args.plant.now in let t = c.args.config.now in let h = c.args.tables.now in let ev = c.args.journal.now.events in
    ok-along c.refuse.result c.refuse.ensures.told (λ done. full-lists (here s t h ev) s.block c.args.number (sym c.if-not-has_room_for.ensures))

pub returns-then-not-has_room_for-clause-ready : goal.returns-then-not-has_room_for-clause-ready
returns-then-not-has_room_for-clause-ready g c = record {
  rest = c.requires.ready.rest;
  reads = c.requires.ready.reads;
  told = refused-told c.args.number JournalFull c.args.journal.now.events c.refuse.new.journal.events c.refuse.result c.args.tables.now c.refuse.ensures.told c.refuse.ensures.same c.requires.ready.told;
}

pub returns-then-not-has_room_for-clause-faults : goal.returns-then-not-has_room_for-clause-faults
returns-then-not-has_room_for-clause-faults g c f before =
    refused-faults c.args.number JournalFull c.args.journal.now.events c.refuse.new.journal.events c.refuse.result f (g.P.Plant.state c.args.plant.now).faults refl c.refuse.ensures.told c.refuse.ensures.same before

pub returns-clause-task : goal.returns-clause-task
returns-clause-task g c =
    let s = g.P.Plant.state c.args.plant.now in let t = c.args.config.now in let h = c.args.tables.now in let ev = c.args.journal.now.events in
    let told = image_told (listing (here s t h ev).control s.block) in
    image-done (here s t h ev) s.block c.args.number (sym c.if-not-has_room_for.ensures)
    ∙ ap (here s t h) (sym (c.say.ensures.events ∙ ap (λ es. es ++ answer c.args.number (Done Alone) ∷ []) (c.image.ensures.told (rest_of h ev) ∙ ap (λ es. es ++ told) c.reserve.ensures.events)))

pub returns-clause-lists : goal.returns-clause-lists
returns-clause-lists g c =
    let s = g.P.Plant.state c.args.plant.now in let t = c.args.config.now in let h = c.args.tables.now in let ev = c.args.journal.now.events in
    lists-asked (here s t h ev) s.block c.args.number (Ok Image) (c.image.ensures.lists (rest_of h ev))

pub returns-clause-ready : goal.returns-clause-ready
returns-clause-ready g c = record {
  rest = c.requires.ready.rest;
  reads = c.requires.ready.reads;
  told =
      let s = g.P.Plant.state c.args.plant.now in let t = c.args.config.now in let h = c.args.tables.now in let ev = c.args.journal.now.events in
      let vs = listing (here s t h ev).control s.block in
      told-answer h c.image.new.journal.events c.say.new.journal.events c.args.number (Done Alone) c.say.ensures.events
      (told-lines h ev c.image.new.journal.events (image_told vs) (c.image.ensures.told (rest_of h ev) ∙ ap (λ es. es ++ image_told vs) c.reserve.ensures.events) (image-lines vs) c.requires.ready.told);
}

pub returns-clause-faults : goal.returns-clause-faults
returns-clause-faults g c f before =
    let s = g.P.Plant.state c.args.plant.now in let t = c.args.config.now in let h = c.args.tables.now in let ev = c.args.journal.now.events in
    let vs = listing (here s t h ev).control s.block in
    let told = c.image.ensures.told (rest_of h ev) ∙ ap (λ es. es ++ image_told vs) c.reserve.ensures.events in
    calm-answer ev c.image.new.journal.events c.say.new.journal.events (image_told vs) c.args.number f s.faults told (image-lines vs) c.say.ensures.events before

pub returns-then-not-has_room_for-clause-wanted : goal.returns-then-not-has_room_for-clause-wanted
returns-then-not-has_room_for-clause-wanted g c below = not-both c.refuse.result _ (c.refuse.ensures.full below (sym c.if-not-has_room_for.ensures))

pub returns-in_err-reserve-clause-wanted : goal.returns-in_err-reserve-clause-wanted
returns-in_err-reserve-clause-wanted g c below =
    let w = here (g.P.Plant.state c.args.plant.now) c.args.config.now c.args.tables.now c.args.journal.now.events in
    let held = length w.events + c.args.journal.now.spare in
    err-always c.from_residual.result (image-room w held (sym c.if-not-has_room_for.ensures) c.in_err-reserve.ensures.grows)
