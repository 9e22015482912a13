use Rattle.std.proofs.Common.{sym, ap, ◌∙◌}
use Rattle.std.specs.Option.{option_or}
use Rattle.dr_model.specs.declared.said.Said.TheVariants.{Refused}
use Rattle.dr_model.specs.SessionPlans.{outside_refusal, off_refusal, appointed}
use Rattle.dr_model.specs.Sessions.{make_refusal, changed, mirrored_by, mirror_in}
use Rattle.dr_model.specs.Messages.{raised}
use Rattle.dr_ctl.specs.Kept.{flight_in}
use Rattle.dr_steps.specs.Here.{here}
use Rattle.dr_steps.proofs.SessionLemmas.{found-refused, found-changes, both-are, kept-said}
use Rattle.dr_steps.proofs.sessions.make_mirror.Goals as goal

pub returns-in-Err-clause-step : goal.returns-in-Err-clause-step
returns-in-Err-clause-step g c line =
    let s = g.P.Plant.state c.args.plant.now in let t = c.args.config.now in let h = c.args.tables.now in let ev = c.args.journal.now.events in
    let k = (here s t h ev).control in
    c.in-Err.ensures.refused s ev line (λ owner x. option_or (outside_refusal x c.args.l.0) (option_or (off_refusal k owner) (make_refusal x.mirror))) (λ owner x. appointed c.args.s.0 owner)

pub returns-in-Some-clause-step : goal.returns-in-Some-clause-step
returns-in-Some-clause-step g c line =
    let s = g.P.Plant.state c.args.plant.now in let t = c.args.config.now in let h = c.args.tables.now in let ev = c.args.journal.now.events in
    let k = (here s t h ev).control in
    found-refused s t h ev line c.args.devs.now.dev c.args.l.0 c.args.s.0 (λ owner x. option_or (outside_refusal x c.args.l.0) (option_or (off_refusal k owner) (make_refusal x.mirror))) (λ owner x. appointed c.args.s.0 owner)
    c.in-Ok.owner.0 c.in-Ok.ensures.found c.in-Some.why (λ x there. ap (λ o. option_or o (option_or (off_refusal k c.in-Ok.owner.0) (make_refusal x.mirror))) (sym (c.in-Some.ensures.refusal x there)))

pub returns-in-Some-off_refusal-clause-step : goal.returns-in-Some-off_refusal-clause-step
returns-in-Some-off_refusal-clause-step g c line =
    let s = g.P.Plant.state c.args.plant.now in let t = c.args.config.now in let h = c.args.tables.now in let ev = c.args.journal.now.events in
    let k = (here s t h ev).control in
    found-refused s t h ev line c.args.devs.now.dev c.args.l.0 c.args.s.0 (λ owner x. option_or (outside_refusal x c.args.l.0) (option_or (off_refusal k owner) (make_refusal x.mirror))) (λ owner x. appointed c.args.s.0 owner)
    c.in-Ok.owner.0 c.in-Ok.ensures.found c.in-Some-off_refusal.why (λ x there i. option_or (sym (c.in_default.ensures.refusal x there) i) (option_or (sym (c.in-Some-off_refusal.ensures.refusal t h ev) i) (make_refusal x.mirror)))

pub returns-in-Ok-make_master-clause-step : goal.returns-in-Ok-make_master-clause-step
returns-in-Ok-make_master-clause-step g c line =
    let s = g.P.Plant.state c.args.plant.now in let t = c.args.config.now in let h = c.args.tables.now in let ev = c.args.journal.now.events in
    let k = (here s t h ev).control in
    found-changes s t h ev line c.args.devs.now.dev c.args.l.0 c.args.s.0 (λ owner x. option_or (outside_refusal x c.args.l.0) (option_or (off_refusal k owner) (make_refusal x.mirror))) (λ owner x. appointed c.args.s.0 owner)
    c.in-Ok.owner.0 c.in-Ok.ensures.found (here s t (record h { sessions = c.make_master.new.self; flight = c.raise.new.self }) ev) (λ x there i. option_or (sym (c.in_default.ensures.refusal x there) i) (option_or (sym (c.in_default-off_refusal.ensures.refusal t h ev) i) (sym (c.in-Ok-make_master.ensures.refused ∙ ap (λ o. make_refusal (mirror_in o)) there) i)))
    (λ x there. both-are s t h ev line (changed c.args.s.0 (mirrored_by c.in-Ok.owner.0) h.sessions.sessions) (raised c.args.s.0 (flight_in h.flight)) c.make_master.new.self c.raise.new.self (ap (λ x. x.sessions) c.in-Ok-make_master.ensures.made) c.raise.ensures.raised)

pub returns-in-Err-make_master-clause-step : goal.returns-in-Err-make_master-clause-step
returns-in-Err-make_master-clause-step g c line =
    let s = g.P.Plant.state c.args.plant.now in let t = c.args.config.now in let h = c.args.tables.now in let ev = c.args.journal.now.events in
    let k = (here s t h ev).control in
    found-refused s t h ev line c.args.devs.now.dev c.args.l.0 c.args.s.0 (λ owner x. option_or (outside_refusal x c.args.l.0) (option_or (off_refusal k owner) (make_refusal x.mirror))) (λ owner x. appointed c.args.s.0 owner)
    c.in-Ok.owner.0 c.in-Ok.ensures.found c.in-Err-make_master.why (λ x there i. option_or (sym (c.in_default.ensures.refusal x there) i) (option_or (sym (c.in_default-off_refusal.ensures.refusal t h ev) i) (sym (c.in-Err-make_master.ensures.refused ∙ ap (λ o. make_refusal (mirror_in o)) there) i)))
    ∙ kept-said s t h ev line c.make_master.new.self (Refused c.in-Err-make_master.why) (ap (λ x. x.sessions) c.in-Err-make_master.ensures.same)

pub off_refusal-requires : goal.off_refusal-requires
off_refusal-requires g c = record { known = c.in-Ok.ensures.found.known }

pub raise-requires : goal.raise-requires
raise-requires g c = c.requires.counts.epochs c.args.s.0
