use Rattle.std.proofs.Common.{sym, ap, ◌∙◌, Err}
use Rattle.dr_model.specs.declared.said.Said.TheVariants.{Refused}
use Rattle.dr_model.specs.Runs.{said}
use Rattle.dr_steps.specs.Here.{here}
use Rattle.dr_steps.proofs.SessionLemmas.{join-nowhere, join-foreign, join-off, join-refused, join-done, kept-said, on-fault}
use Rattle.dr_session.specs.Kept.{refusal_of}
use Rattle.dr_model.specs.declared.said.Addition.{Addition}
use Rattle.dr_steps.proofs.WantLemmas.{on-no-memory, session-wants}
use Rattle.dr_steps.proofs.sessions.make_session.Goals as goal

pub returns-in_default-clause-step : goal.returns-in_default-clause-step
returns-in_default-clause-step g c line =
    let s = g.P.Plant.state c.args.plant.now in let t = c.args.config.now in let h = c.args.tables.now in let ev = c.args.journal.now.events in
    join-nowhere s t h ev line c.args.devs.now.dev c.args.l.0 c.args.s.0 c.in_default.ensures.sound (sym c.in_default.ensures.value)
    ∙ ap (λ r. said (here s t h ev) line (Refused r)) (sym c.unknown_lss.ensures)

pub returns-then-not-is_named-clause-step : goal.returns-then-not-is_named-clause-step
returns-then-not-is_named-clause-step g c line =
    let s = g.P.Plant.state c.args.plant.now in let t = c.args.config.now in let h = c.args.tables.now in let ev = c.args.journal.now.events in
    join-foreign s t h ev line c.args.devs.now.dev c.args.l.0 c.args.s.0 c.in-Some.ensures.sound c.in-Some.owner.0 (sym c.in-Some.ensures.value) (sym (c.is_named.ensures s h ev) ∙ c.if-not-is_named.true)
    ∙ ap (λ r. said (here s t h ev) line (Refused r)) (sym c.unknown_server.ensures)

pub returns-in-Some-off_refusal-clause-step : goal.returns-in-Some-off_refusal-clause-step
returns-in-Some-off_refusal-clause-step g c line =
    let s = g.P.Plant.state c.args.plant.now in let t = c.args.config.now in let h = c.args.tables.now in let ev = c.args.journal.now.events in
    join-off s t h ev line c.args.devs.now.dev c.args.l.0 c.args.s.0 c.in-Some.ensures.sound c.in-Some.owner.0 (sym c.in-Some.ensures.value) (sym (c.is_named.ensures s h ev) ∙ c.if-not-is_named.false) c.in-Some-off_refusal.why (c.in-Some-off_refusal.ensures.refusal t h ev)

pub returns-in-Ok-clause-step : goal.returns-in-Ok-clause-step
returns-in-Ok-clause-step g c line =
    let s = g.P.Plant.state c.args.plant.now in let t = c.args.config.now in let h = c.args.tables.now in let ev = c.args.journal.now.events in
    join-done s t h ev line c.args.devs.now.dev c.args.l.0 c.args.s.0 c.in-Some.ensures.sound c.in-Some.owner.0 (sym c.in-Some.ensures.value) (sym (c.is_named.ensures s h ev) ∙ c.if-not-is_named.false) c.join_lss.new.self (c.in_default-off_refusal.ensures.refusal t h ev) c.in-Ok.ensures.refused c.in-Ok.ensures.joined

pub returns-in-Err-clause-step : goal.returns-in-Err-clause-step
returns-in-Err-clause-step g c =
    let s = g.P.Plant.state c.args.plant.now in let t = c.args.config.now in let h = c.args.tables.now in let ev = c.args.journal.now.events in
    on-fault c.in-Err.fault _ _ c.in-Err.ensures.refused (λ r is line.
    join-refused s t h ev line c.args.devs.now.dev c.args.l.0 c.args.s.0 c.in-Some.ensures.sound c.in-Some.owner.0 (sym c.in-Some.ensures.value) (sym (c.is_named.ensures s h ev) ∙ c.if-not-is_named.false) r (c.in_default-off_refusal.ensures.refusal t h ev) is
    ∙ kept-said s t h ev line c.join_lss.new.self (Refused r) c.in-Err.ensures.same)

pub returns-in-Err-clause-wanted : goal.returns-in-Err-clause-wanted
returns-in-Err-clause-wanted g c =
    let s = g.P.Plant.state c.args.plant.now in let t = c.args.config.now in let h = c.args.tables.now in let ev = c.args.journal.now.events in
    on-no-memory Addition c.in-Err.fault _ (λ is.
    session-wants s t h ev c.args.devs.now c.args.l.0 c.args.s.0 c.in-Some.owner.0 c.in-Some.ensures.sound (sym c.in-Some.ensures.value) (sym (c.is_named.ensures s h ev) ∙ c.if-not-is_named.false)
    (c.in_default-off_refusal.ensures.refusal t h ev) (ap (λ f. refusal_of {T = Unit {0}} (Err f)) (sym is) ∙ c.in-Err.ensures.refused))

pub returns-in-Err-clause-same : goal.returns-in-Err-clause-same
returns-in-Err-clause-same g c =
    let w = here (g.P.Plant.state c.args.plant.now) c.args.config.now c.args.tables.now c.args.journal.now.events in
    on-no-memory Addition c.in-Err.fault _ (λ is i. record w { control = record w.control { sessions = c.in-Err.ensures.same i } })
