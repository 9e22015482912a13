use Rattle.std.proofs.Common.{sym, ap, ◌∙◌}
use Rattle.std.specs.Option.{option_or}
use Rattle.dr_model.specs.SessionPlans.{with_sessions, outside_refusal, master_refusal}
use Rattle.dr_model.specs.Sessions.{changed, paused, mirror_in}
use Rattle.dr_steps.specs.Here.{here}
use Rattle.dr_steps.proofs.SessionLemmas.{found-refused, found-changes, sessions-are, pauses, master-low}
use Rattle.dr_steps.proofs.sessions.pause_mirror.Goals as goal

pub returns-in-Err-clause-step : goal.returns-in-Err-clause-step
returns-in-Err-clause-step g c line =
    let s = g.P.Plant.state c.args.plant.now in let t = c.args.config.now in let h = c.args.tables.now in let ev = c.args.journal.now.events in
    let k = (here s t h ev).control in
    c.in-Err.ensures.refused s ev line (λ owner x. option_or (outside_refusal x c.args.l.0) (master_refusal k x.mirror)) (λ owner x. with_sessions (changed c.args.s.0 (paused c.args.on)))

pub returns-in-Some-clause-step : goal.returns-in-Some-clause-step
returns-in-Some-clause-step g c line =
    let s = g.P.Plant.state c.args.plant.now in let t = c.args.config.now in let h = c.args.tables.now in let ev = c.args.journal.now.events in
    let k = (here s t h ev).control in
    found-refused s t h ev line c.args.devs.now.dev c.args.l.0 c.args.s.0 (λ owner x. option_or (outside_refusal x c.args.l.0) (master_refusal k x.mirror)) (λ owner x. with_sessions (changed c.args.s.0 (paused c.args.on)))
    c.in_default.field-0.0 c.in_default.ensures.found c.in-Some.why (λ x there. ap (λ o. option_or o (master_refusal k x.mirror)) (sym (c.in-Some.ensures.refusal x there)))

pub returns-in-Some-master_refusal-clause-step : goal.returns-in-Some-master_refusal-clause-step
returns-in-Some-master_refusal-clause-step g c line =
    let s = g.P.Plant.state c.args.plant.now in let t = c.args.config.now in let h = c.args.tables.now in let ev = c.args.journal.now.events in
    let k = (here s t h ev).control in
    found-refused s t h ev line c.args.devs.now.dev c.args.l.0 c.args.s.0 (λ owner x. option_or (outside_refusal x c.args.l.0) (master_refusal k x.mirror)) (λ owner x. with_sessions (changed c.args.s.0 (paused c.args.on)))
    c.in_default.field-0.0 c.in_default.ensures.found c.in-Some-master_refusal.why (λ x there i. option_or (sym (c.in_default-outside_refusal.ensures.refusal x there) i) (sym (c.in-Some-master_refusal.ensures.refusal t h ev ∙ ap (λ o. master_refusal k (mirror_in o)) there) i))

pub returns-in-Ok-clause-step : goal.returns-in-Ok-clause-step
returns-in-Ok-clause-step g c line =
    let s = g.P.Plant.state c.args.plant.now in let t = c.args.config.now in let h = c.args.tables.now in let ev = c.args.journal.now.events in
    let k = (here s t h ev).control in
    found-changes s t h ev line c.args.devs.now.dev c.args.l.0 c.args.s.0 (λ owner x. option_or (outside_refusal x c.args.l.0) (master_refusal k x.mirror)) (λ owner x. with_sessions (changed c.args.s.0 (paused c.args.on)))
    c.in_default.field-0.0 c.in_default.ensures.found (here s t (record h { sessions = c.set_paused.new.self }) ev) (λ x there i. option_or (sym (c.in_default-outside_refusal.ensures.refusal x there) i) (sym (c.in_default-master_refusal.ensures.refusal t h ev ∙ ap (λ o. master_refusal k (mirror_in o)) there) i))
    (λ x there. sessions-are s t h ev line (changed c.args.s.0 (paused c.args.on)) c.set_paused.new.self (ap (λ x. x.sessions) c.in-Ok.ensures.paused))

pub returns-in-Err-set_paused-clause-step : goal.returns-in-Err-set_paused-clause-step
returns-in-Err-set_paused-clause-step g c line =
    let s = g.P.Plant.state c.args.plant.now in let t = c.args.config.now in let h = c.args.tables.now in let ev = c.args.journal.now.events in
    pauses (here s t h ev).control _ c.in-Err-set_paused.why (c.in_default-master_refusal.ensures.refusal t h ev) c.in-Err-set_paused.ensures.refused

pub master_refusal-requires : goal.master_refusal-requires
master_refusal-requires g c =
    record { known = master-low (g.P.Plant.state c.args.plant.now) c.args.config.now c.args.tables.now c.args.journal.now.events c.args.s.0 c.requires.sound }
