use Rattle.std.proofs.Common.{ap, ◌∙◌, Some}
use Rattle.dr_model.specs.PlanParts.{unless}
use Rattle.dr_model.specs.SessionPlans.{name_refusal, expel_found}
use Rattle.dr_model.specs.Sessions.{session_in}
use Rattle.dr_admin.specs.Removing.{member_in, entries_without, sessions_without, expel_refusal}
use Rattle.dr_steps.specs.Here.{here, rest_of}
use Rattle.dr_steps.proofs.LandLemmas.{ready-after}
use Rattle.dr_steps.proofs.RelationLemmas.{relations-fit}
use Rattle.dr_steps.proofs.MemberLemmas.{target-defined, expel-foreign, expel-goes, call-done, call-refused, call-told, refused-told}
use Rattle.dr_steps.proofs.members.remove_member.Goals as goal

pub returns-in-Err-clause-step : goal.returns-in-Err-clause-step
returns-in-Err-clause-step g c line =
    let s = g.P.Plant.state c.args.plant.now in let t = c.args.config.now in let h = c.args.tables.now in let ev = c.args.journal.now.events in
    let k = (here s t h ev).control in let a = c.args.a.0 in let n = c.args.s.0 in
    c.in-Err.ensures.refused s ev line (λ owner y. unless (name_refusal k c.args.devs.now.dev owner) (expel_found k n y (member_in a (Some y))))

pub returns-in-Some-clause-step : goal.returns-in-Some-clause-step
returns-in-Some-clause-step g c line =
    let s = g.P.Plant.state c.args.plant.now in let t = c.args.config.now in let h = c.args.tables.now in let ev = c.args.journal.now.events in
    expel-foreign s t h ev line c.args.l.0 c.args.a.0 c.args.s.0 c.args.devs.now.dev c.in-Ok.owner.0 c.in-Ok.ensures.there c.in-Some.why (c.in-Some.ensures.refusal s h ev)

pub expel-requires-clause-fit : goal.expel-requires-clause-fit
expel-requires-clause-fit g c = relations-fit (g.P.Plant.state c.args.plant.now) c.args.config.now c.args.tables.now c.args.journal.now.events c.requires.sound

pub expel-requires-clause-target : goal.expel-requires-clause-target
expel-requires-clause-target g c = target-defined (g.P.Plant.state c.args.plant.now) c.args.config.now c.args.tables.now c.args.journal.now.events c.requires.sound c.args.s.0 c.args.a.0

pub returns-in-Ok-expel-clause-step : goal.returns-in-Ok-expel-clause-step
returns-in-Ok-expel-clause-step g c line =
    let s = g.P.Plant.state c.args.plant.now in let t = c.args.config.now in let h = c.args.tables.now in let ev = c.args.journal.now.events in
    let k = (here s t h ev).control in let a = c.args.a.0 in let n = c.args.s.0 in
    let m = member_in a (session_in h.sessions.sessions n) in
    let u = g.P.Plant.state c.expel.new.plant in let mid = c.expel.new.journal.events in
    expel-goes s t h ev line c.args.l.0 a n c.args.devs.now.dev c.in-Ok.owner.0 c.in-Ok.ensures.there (c.in_default.ensures.refusal s h ev) (c.in-Ok-expel.ensures.plan (rest_of h ev))
    ∙ call-done s u t h ev mid (entries_without n m) c.requires.ready.reads c.expel.new.ss (sessions_without n m) (expel_refusal k n (session_in h.sessions.sessions n) m) (c.in-Ok-expel.ensures.refused (rest_of h ev)) (c.in-Ok-expel.ensures.carried (rest_of h ev)) c.in-Ok-expel.ensures.removed line

pub returns-in-Ok-expel-clause-ready : goal.returns-in-Ok-expel-clause-ready
returns-in-Ok-expel-clause-ready g c =
    let s = g.P.Plant.state c.args.plant.now in let t = c.args.config.now in let h = c.args.tables.now in let ev = c.args.journal.now.events in
    let k = (here s t h ev).control in let a = c.args.a.0 in let n = c.args.s.0 in
    let m = member_in a (session_in h.sessions.sessions n) in
    let u = g.P.Plant.state c.expel.new.plant in let mid = c.expel.new.journal.events in
    ready-after t s u h mid c.requires.ready.reads c.in-Ok-expel.ensures.rest c.in-Ok-expel.ensures.unarmed (call-told s u t h ev mid (entries_without n m) c.requires.ready.reads c.requires.ready.told (c.in-Ok-expel.ensures.carried (rest_of h ev)))

pub returns-in-Err-expel-clause-step : goal.returns-in-Err-expel-clause-step
returns-in-Err-expel-clause-step g c line =
    let s = g.P.Plant.state c.args.plant.now in let t = c.args.config.now in let h = c.args.tables.now in let ev = c.args.journal.now.events in
    let k = (here s t h ev).control in let a = c.args.a.0 in let n = c.args.s.0 in
    let m = member_in a (session_in h.sessions.sessions n) in
    let u = g.P.Plant.state c.expel.new.plant in let mid = c.expel.new.journal.events in
    expel-goes s t h ev line c.args.l.0 a n c.args.devs.now.dev c.in-Ok.owner.0 c.in-Ok.ensures.there (c.in_default.ensures.refusal s h ev) (c.in-Err-expel.ensures.plan (rest_of h ev))
    ∙ call-refused s u t h ev mid (entries_without n m) c.requires.ready.reads c.expel.new.ss (sessions_without n m) (expel_refusal k n (session_in h.sessions.sessions n) m) c.in-Err-expel.ensures.same c.in-Err-expel.why (c.in-Err-expel.ensures.refused (rest_of h ev)) (λ stop. c.in-Err-expel.ensures.stopped stop (rest_of h ev)) (λ calm. let e = c.in-Err-expel.ensures.unchanged calm in (e.0, ap (λ j. j.events) e.1)) line

pub returns-in-Err-expel-clause-ready : goal.returns-in-Err-expel-clause-ready
returns-in-Err-expel-clause-ready g c =
    let s = g.P.Plant.state c.args.plant.now in let t = c.args.config.now in let h = c.args.tables.now in let ev = c.args.journal.now.events in
    let k = (here s t h ev).control in let a = c.args.a.0 in let n = c.args.s.0 in
    let m = member_in a (session_in h.sessions.sessions n) in
    let u = g.P.Plant.state c.expel.new.plant in let mid = c.expel.new.journal.events in
    ready-after t s u h mid c.requires.ready.reads c.in-Err-expel.ensures.rest c.in-Err-expel.ensures.unarmed (refused-told s u t h ev mid (entries_without n m) c.requires.ready.reads c.requires.ready.told c.in-Err-expel.why (λ stop. c.in-Err-expel.ensures.stopped stop (rest_of h ev)) (λ calm. let e = c.in-Err-expel.ensures.unchanged calm in (e.0, ap (λ j. j.events) e.1)))
