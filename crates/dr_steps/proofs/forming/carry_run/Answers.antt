use Rattle.std.proofs.Common.{[], ◌∷◌, ◌++◌, ap, sym, ◌∙◌, refl, subst, ◌+◌, ◌-◌, length}
use Rattle.dr_logic.specs.Counts.{Counted}
use Rattle.dr_ids.specs.declared.refusal.Refusal.TheVariants.{JournalFull}
use Rattle.dr_model.specs.Control.{World}
use Rattle.dr_model.specs.Answers.{answer}
use Rattle.dr_model.specs.Forming.{form_in}
use Rattle.dr_model.specs.Sessions.{session_in}
use Rattle.dr_model.specs.declared.step.Step.TheVariants.{Run}
use Rattle.dr_moves.specs.Here.{refusal_of}
use Rattle.dr_steps.specs.Faults.{is_stopped}
use Rattle.dr_steps.specs.Formed.{Reaches}
use Rattle.dr_steps.specs.Here.{here}
use Rattle.dr_steps.proofs.StepTaskLemmas.{told-answer, refused-task, refused-told, refused-faults, faults-step}
use Rattle.dr_steps.proofs.FormingLemmas.{formed-task, formed-full, formed-room, stop-formed}
use Rattle.dr_logic.proofs.Results.{err-always}
use Rattle.dr_steps.proofs.WantLemmas.{not-both, step-full, run-room}
use Rattle.dr_steps.proofs.forming.carry_run.Goals as goal

pub returns-then-not-has_room-clause-task : goal.returns-then-not-has_room-clause-task
returns-then-not-has_room-clause-task g c =
    let s = g.P.Plant.state c.args.plant.now in let t = c.args.config.now in let h = c.args.tables.now in let ev = c.args.journal.now.events in
    let w = here s t h ev in
    refused-task c.args.number JournalFull ev c.refuse.new.journal.events c.refuse.result s t h
    (formed-task w w c.args.number c.args.s.0 c.args.groups _ (formed-full w c.args.s.0 c.args.groups (sym c.if-not-has_room.ensures))) c.refuse.ensures.told

pub returns-then-not-has_room-clause-ready : goal.returns-then-not-has_room-clause-ready
returns-then-not-has_room-clause-ready g c = record {
  rest = c.requires.ready.rest;
  reads = c.requires.ready.reads;
  told = refused-told c.args.number JournalFull c.args.journal.now.events c.refuse.new.journal.events c.refuse.result c.args.tables.now c.refuse.ensures.told c.refuse.ensures.same c.requires.ready.told;
}

pub returns-then-not-has_room-clause-faults : goal.returns-then-not-has_room-clause-faults
returns-then-not-has_room-clause-faults g c f before =
    refused-faults c.args.number JournalFull c.args.journal.now.events c.refuse.new.journal.events c.refuse.result f (g.P.Plant.state c.args.plant.now).faults refl c.refuse.ensures.told c.refuse.ensures.same before

pub returns-clause-task : goal.returns-clause-task
returns-clause-task g c =
    let s = g.P.Plant.state c.args.plant.now in let t = c.args.config.now in let h = c.args.tables.now in let ev = c.args.journal.now.events in let n = c.args.s.0 in
    let u = g.P.Plant.state c.form_groups-formed.new.plant in let h' = c.form_groups-formed.new.tables in let mid = c.form_groups-formed.new.journal.events in
    let w = here s t h ev in let v = here u t h' mid in let r = refusal_of c.form_groups-formed.result in
    let way = subst (λ es. Reaches (form_in (here s t h es) n c.args.groups (session_in h.sessions.sessions n)) v r) c.reserve.ensures.events c.form_groups-formed.ensures.way in
    let led = formed-task w v c.args.number n c.args.groups r (formed-room w v n c.args.groups r (sym c.if-not-has_room.ensures) way) in
    led ∙ (λ i. here u t h' (mid ++ answer c.args.number (sym c.formed_answer.ensures i) ∷ [])) ∙ ap (here u t h') (sym c.say.ensures.events)

pub returns-clause-ready : goal.returns-clause-ready
returns-clause-ready g c = record {
  rest = c.form_groups-formed.ensures.ready.rest;
  reads = c.form_groups-formed.ensures.ready.reads;
  told = told-answer c.form_groups-formed.new.tables c.form_groups-formed.new.journal.events c.say.new.journal.events c.args.number c.formed_answer.result c.say.ensures.events c.form_groups-formed.ensures.ready.told;
}

pub returns-clause-faults : goal.returns-clause-faults
returns-clause-faults g c f before =
    let s = g.P.Plant.state c.args.plant.now in let t = c.args.config.now in let h = c.args.tables.now in let ev = c.args.journal.now.events in let n = c.args.s.0 in
    let u = g.P.Plant.state c.form_groups-formed.new.plant in let h' = c.form_groups-formed.new.tables in let mid = c.form_groups-formed.new.journal.events in
    let w = here s t h ev in let v = here u t h' mid in let r = refusal_of c.form_groups-formed.result in
    let way = subst (λ es. Reaches (form_in (here s t h es) n c.args.groups (session_in h.sessions.sessions n)) v r) c.reserve.ensures.events c.form_groups-formed.ensures.way in
    let led = formed-task w v c.args.number n c.args.groups r (formed-room w v n c.args.groups r (sym c.if-not-has_room.ensures) way) in
    let counts = subst (λ b. Counted b s.faults u.faults) (sym (ap is_stopped c.formed_answer.ensures ∙ stop-formed n h'.sessions.sessions r)) c.form_groups-formed.ensures.faults in
    faults-step w c.args.number (Run n c.args.groups) v c.formed_answer.result c.say.new.journal.events f s.faults u.faults
    (ap (λ (x : World). x.events) led ∙ (λ i. mid ++ answer c.args.number (sym c.formed_answer.ensures i) ∷ [])) c.say.ensures.events counts before

pub returns-then-not-has_room-clause-wanted : goal.returns-then-not-has_room-clause-wanted
returns-then-not-has_room-clause-wanted g c = not-both c.refuse.result _ (c.refuse.ensures.full c.requires.below (step-full c.args.journal.now.events (sym c.if-not-has_room.ensures)))

pub returns-in_err-reserve-clause-wanted : goal.returns-in_err-reserve-clause-wanted
returns-in_err-reserve-clause-wanted g c =
    let w = here (g.P.Plant.state c.args.plant.now) c.args.config.now c.args.tables.now c.args.journal.now.events in
    let held = length w.events + c.args.journal.now.spare in
    err-always c.from_residual.result (run-room w held c.args.s.0 c.args.groups _ (ap (λ n. 1000000 - n) c.len.ensures) (sym c.if-not-has_room.ensures) c.in_err-reserve.ensures.grows)
