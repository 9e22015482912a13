use Rattle.std.proofs.Common.{refl, sym, ap, ◌∙◌, Err}
use Rattle.dr_model.specs.PlanParts.{unless}
use Rattle.dr_model.specs.SessionPlans.{place_refusal, add_to, add_plan}
use Rattle.dr_model.specs.Sessions.{session_in}
use Rattle.dr_admin.specs.Adding.{member_planned, entries_planned, sessions_planned, enrol_refusal, unless_stop}
use Rattle.dr_steps.specs.Here.{here, rest_of}
use Rattle.dr_steps.proofs.LandLemmas.{ready-after}
use Rattle.dr_steps.proofs.RelationLemmas.{relations-fit, partners-fit}
use Rattle.dr_steps.proofs.MemberLemmas.{placed, add-misplaced, add-goes, call-done, call-failed, call-told, failed-told}
use Rattle.dr_session.specs.Kept.{refusal_of}
use Rattle.dr_model.specs.declared.said.Addition.{Addition}
use Rattle.dr_steps.proofs.WantLemmas.{on-no-memory, member-wants}
use Rattle.dr_steps.proofs.members.add_member.Goals as goal

pub returns-in-Err-clause-step : goal.returns-in-Err-clause-step
returns-in-Err-clause-step g c line =
    let s = g.P.Plant.state c.args.plant.now in let t = c.args.config.now in let h = c.args.tables.now in let ev = c.args.journal.now.events in
    let k = (here s t h ev).control in let a = c.args.a.0 in let n = c.args.s.0 in
    c.in-Err.ensures.refused s ev line (λ owner y. unless (place_refusal k c.args.devs.now.dev owner c.args.l.0 a) (add_to k n y c.args.l.0 a))

pub returns-in-Some-clause-step : goal.returns-in-Some-clause-step
returns-in-Some-clause-step g c line =
    let s = g.P.Plant.state c.args.plant.now in let t = c.args.config.now in let h = c.args.tables.now in let ev = c.args.journal.now.events in
    add-misplaced s t h ev line c.args.l.0 c.args.a.0 c.args.s.0 c.args.devs.now.dev c.in-Ok.owner.0 c.in-Ok.ensures.there c.in-Some.why (c.in-Some.ensures.refusal s h ev)

pub enrol-requires-clause-fit : goal.enrol-requires-clause-fit
enrol-requires-clause-fit g c = relations-fit (g.P.Plant.state c.args.plant.now) c.args.config.now c.args.tables.now c.args.journal.now.events c.requires.sound

pub enrol-requires-clause-defined : goal.enrol-requires-clause-defined
enrol-requires-clause-defined g c = placed c.args.config.now c.args.a.0 c.in-Ok.ensures.there.volume

pub enrol-requires-clause-partner : goal.enrol-requires-clause-partner
enrol-requires-clause-partner g c = (partners-fit (g.P.Plant.state c.args.plant.now) c.args.config.now c.args.tables.now c.args.journal.now.events c.requires.sound).defined c.args.a.0

pub returns-in-Ok-enrol-clause-step : goal.returns-in-Ok-enrol-clause-step
returns-in-Ok-enrol-clause-step g c line =
    let s = g.P.Plant.state c.args.plant.now in let t = c.args.config.now in let h = c.args.tables.now in let ev = c.args.journal.now.events in
    let k = (here s t h ev).control in let a = c.args.a.0 in let n = c.args.s.0 in
    let x = session_in h.sessions.sessions n in let m = member_planned k a in
    let u = g.P.Plant.state c.enrol.new.plant in let mid = c.enrol.new.journal.events in
    add-goes s t h ev line c.args.l.0 a n c.args.devs.now.dev c.in-Ok.owner.0 c.in-Ok.ensures.there (c.in_default.ensures.refusal s h ev) (c.in-Ok-enrol.ensures.plan (rest_of h ev))
    ∙ call-done s u t h ev mid (entries_planned k x m) c.requires.ready.reads c.enrol.new.ss (sessions_planned k n x m) (enrol_refusal k x c.args.l.0 a) (c.in-Ok-enrol.ensures.refused (rest_of h ev) refl) (c.in-Ok-enrol.ensures.carried (rest_of h ev)) (c.in-Ok-enrol.ensures.added (rest_of h ev)) line

pub returns-in-Ok-enrol-clause-ready : goal.returns-in-Ok-enrol-clause-ready
returns-in-Ok-enrol-clause-ready g c =
    let s = g.P.Plant.state c.args.plant.now in let t = c.args.config.now in let h = c.args.tables.now in let ev = c.args.journal.now.events in
    let k = (here s t h ev).control in let a = c.args.a.0 in let n = c.args.s.0 in
    let x = session_in h.sessions.sessions n in let m = member_planned k a in
    let u = g.P.Plant.state c.enrol.new.plant in let mid = c.enrol.new.journal.events in
    ready-after t s u h mid c.requires.ready.reads c.in-Ok-enrol.ensures.rest c.in-Ok-enrol.ensures.unarmed (call-told s u t h ev mid (entries_planned k x m) c.requires.ready.reads c.requires.ready.told (c.in-Ok-enrol.ensures.carried (rest_of h ev)))

pub returns-in-Err-enrol-clause-step : goal.returns-in-Err-enrol-clause-step
returns-in-Err-enrol-clause-step g c =
    let s = g.P.Plant.state c.args.plant.now in let t = c.args.config.now in let h = c.args.tables.now in let ev = c.args.journal.now.events in
    let k = (here s t h ev).control in let a = c.args.a.0 in let n = c.args.s.0 in
    let x = session_in h.sessions.sessions n in let m = member_planned k a in
    let u = g.P.Plant.state c.enrol.new.plant in let mid = c.enrol.new.journal.events in
    call-failed s u t h ev mid (entries_planned k x m) c.requires.ready.reads c.enrol.new.ss (sessions_planned k n x m) (enrol_refusal k x c.args.l.0 a) c.in-Err-enrol.ensures.same c.in-Err-enrol.fault (add_plan k c.args.devs.now.dev c.args.l.0 a n)
    (λ line. add-goes s t h ev line c.args.l.0 a n c.args.devs.now.dev c.in-Ok.owner.0 c.in-Ok.ensures.there (c.in_default.ensures.refusal s h ev) (c.in-Err-enrol.ensures.plan (rest_of h ev)))
    (c.in-Err-enrol.ensures.refused (rest_of h ev) refl) (λ stop. c.in-Err-enrol.ensures.stopped stop (rest_of h ev)) (λ calm. let e = c.in-Err-enrol.ensures.unchanged calm in (e.0, ap (λ j. j.events) e.1))

pub returns-in-Err-enrol-clause-ready : goal.returns-in-Err-enrol-clause-ready
returns-in-Err-enrol-clause-ready g c =
    let s = g.P.Plant.state c.args.plant.now in let t = c.args.config.now in let h = c.args.tables.now in let ev = c.args.journal.now.events in
    let k = (here s t h ev).control in let a = c.args.a.0 in let n = c.args.s.0 in
    let x = session_in h.sessions.sessions n in let m = member_planned k a in
    let u = g.P.Plant.state c.enrol.new.plant in let mid = c.enrol.new.journal.events in
    ready-after t s u h mid c.requires.ready.reads c.in-Err-enrol.ensures.rest c.in-Err-enrol.ensures.unarmed (failed-told s u t h ev mid (entries_planned k x m) c.requires.ready.reads c.requires.ready.told c.in-Err-enrol.fault (λ stop. c.in-Err-enrol.ensures.stopped stop (rest_of h ev)) (λ calm. let e = c.in-Err-enrol.ensures.unchanged calm in (e.0, ap (λ j. j.events) e.1)))

pub returns-in-Err-enrol-clause-wanted : goal.returns-in-Err-enrol-clause-wanted
returns-in-Err-enrol-clause-wanted g c =
    let s = g.P.Plant.state c.args.plant.now in let t = c.args.config.now in let h = c.args.tables.now in let ev = c.args.journal.now.events in
    on-no-memory Addition c.in-Err-enrol.fault _ (λ is.
    member-wants s t h ev c.args.devs.now c.args.l.0 c.args.a.0 c.args.s.0 c.in-Ok.owner.0 c.in-Ok.ensures.there (c.in_default.ensures.refusal s h ev) (c.in-Err-enrol.ensures.plan (rest_of h ev))
    (sym (ap (λ f. unless_stop (refusal_of {T = Unit {0}} (Err f))) (sym is) ∙ c.in-Err-enrol.ensures.refused (rest_of h ev) refl)))
