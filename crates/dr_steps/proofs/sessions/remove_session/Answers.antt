use Rattle.std.proofs.Common.{sym, ap, ◌∙◌, Some, if◌then◌else◌}
use Rattle.dr_model.specs.declared.said.Said.TheVariants.{Refused}
use Rattle.dr_model.specs.SessionPlans.{leaving}
use Rattle.dr_model.specs.Sessions.{leave_refusal, left}
use Rattle.dr_model.specs.Messages as messages
use Rattle.dr_model.specs.Messages.{forgotten}
use Rattle.dr_ctl.specs.Kept.{flight_in}
use Rattle.dr_steps.specs.Here.{here}
use Rattle.dr_steps.proofs.SessionLemmas.{found-refused, found-changes, both-are, kept-said}
use Rattle.dr_steps.proofs.sessions.remove_session.Goals as goal

pub returns-in-Err-clause-step : goal.returns-in-Err-clause-step
returns-in-Err-clause-step g c line =
    let s = g.P.Plant.state c.args.plant.now in let ev = c.args.journal.now.events in
    c.in-Err.ensures.refused s ev line (λ owner x. leave_refusal (Some x) c.args.s.0 c.args.l.0) (λ owner x. leaving c.args.s.0 c.args.l.0 x)

pub returns-in-Ok-clause-step : goal.returns-in-Ok-clause-step
returns-in-Ok-clause-step g c line =
    let s = g.P.Plant.state c.args.plant.now in let t = c.args.config.now in let h = c.args.tables.now in let ev = c.args.journal.now.events in
    found-changes s t h ev line c.args.devs.now.dev c.args.l.0 c.args.s.0 (λ owner x. leave_refusal (Some x) c.args.s.0 c.args.l.0) (λ owner x. leaving c.args.s.0 c.args.l.0 x)
    c.in_default.field-0.0 c.in_default.ensures.found (here s t (record h { sessions = c.leave_lss.new.self; flight = c.forget_if.new.flight }) ev)
    (λ x there. sym (c.in-Ok.ensures.refused ∙ ap (λ o. leave_refusal o c.args.s.0 c.args.l.0) there))
    (λ x there. both-are s t h ev line (left c.args.s.0 c.args.l.0 h.sessions.sessions) (messages.left c.args.s.0 c.args.l.0 x (flight_in h.flight)) c.leave_lss.new.self c.forget_if.new.flight c.in-Ok.ensures.left
    (c.forget_if.ensures ∙ ap (λ b. if b then forgotten c.args.s.0 (flight_in h.flight) else flight_in h.flight) (c.in-Ok.ensures.gone x there)))

pub returns-in-Err-leave_lss-clause-step : goal.returns-in-Err-leave_lss-clause-step
returns-in-Err-leave_lss-clause-step g c line =
    let s = g.P.Plant.state c.args.plant.now in let t = c.args.config.now in let h = c.args.tables.now in let ev = c.args.journal.now.events in
    found-refused s t h ev line c.args.devs.now.dev c.args.l.0 c.args.s.0 (λ owner x. leave_refusal (Some x) c.args.s.0 c.args.l.0) (λ owner x. leaving c.args.s.0 c.args.l.0 x)
    c.in_default.field-0.0 c.in_default.ensures.found c.in-Err-leave_lss.why (λ x there. sym (c.in-Err-leave_lss.ensures.refused ∙ ap (λ o. leave_refusal o c.args.s.0 c.args.l.0) there))
    ∙ kept-said s t h ev line c.leave_lss.new.self (Refused c.in-Err-leave_lss.why) (ap (λ x. x.sessions) c.in-Err-leave_lss.ensures.same)
