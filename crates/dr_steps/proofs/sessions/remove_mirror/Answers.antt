use Rattle.std.proofs.Common.{sym, ap, ◌∙◌}
use Rattle.std.specs.Option.{option_or}
use Rattle.dr_model.specs.declared.said.Said.TheVariants.{Refused}
use Rattle.dr_model.specs.SessionPlans.{with_sessions, outside_refusal, master_refusal}
use Rattle.dr_model.specs.Sessions.{drop_refusal, changed, unmirrored, mirror_in}
use Rattle.dr_steps.specs.Here.{here}
use Rattle.dr_steps.proofs.SessionLemmas.{found-refused, found-changes, sessions-are, kept-said, master-low}
use Rattle.dr_steps.proofs.sessions.remove_mirror.Goals as goal

pub returns-in-Err-clause-step : goal.returns-in-Err-clause-step
returns-in-Err-clause-step g c line =
    let s = g.P.Plant.state c.args.plant.now in let t = c.args.config.now in let h = c.args.tables.now in let ev = c.args.journal.now.events in
    let k = (here s t h ev).control in
    c.in-Err.ensures.refused s ev line (λ owner x. option_or (outside_refusal x c.args.l.0) (option_or (master_refusal k x.mirror) (drop_refusal x.mirror))) (λ owner x. with_sessions (changed c.args.s.0 unmirrored))

pub returns-in-Some-clause-step : goal.returns-in-Some-clause-step
returns-in-Some-clause-step g c line =
    let s = g.P.Plant.state c.args.plant.now in let t = c.args.config.now in let h = c.args.tables.now in let ev = c.args.journal.now.events in
    let k = (here s t h ev).control in
    found-refused s t h ev line c.args.devs.now.dev c.args.l.0 c.args.s.0 (λ owner x. option_or (outside_refusal x c.args.l.0) (option_or (master_refusal k x.mirror) (drop_refusal x.mirror))) (λ owner x. with_sessions (changed c.args.s.0 unmirrored))
    c.in_default.field-0.0 c.in_default.ensures.found c.in-Some.why (λ x there. ap (λ o. option_or o (option_or (master_refusal k x.mirror) (drop_refusal x.mirror))) (sym (c.in-Some.ensures.refusal x there)))

pub returns-in-Some-master_refusal-clause-step : goal.returns-in-Some-master_refusal-clause-step
returns-in-Some-master_refusal-clause-step g c line =
    let s = g.P.Plant.state c.args.plant.now in let t = c.args.config.now in let h = c.args.tables.now in let ev = c.args.journal.now.events in
    let k = (here s t h ev).control in
    found-refused s t h ev line c.args.devs.now.dev c.args.l.0 c.args.s.0 (λ owner x. option_or (outside_refusal x c.args.l.0) (option_or (master_refusal k x.mirror) (drop_refusal x.mirror))) (λ owner x. with_sessions (changed c.args.s.0 unmirrored))
    c.in_default.field-0.0 c.in_default.ensures.found c.in-Some-master_refusal.why (λ x there i. option_or (sym (c.in_default-outside_refusal.ensures.refusal x there) i) (option_or (sym (c.in-Some-master_refusal.ensures.refusal t h ev ∙ ap (λ o. master_refusal k (mirror_in o)) there) i) (drop_refusal x.mirror)))

pub returns-in-Ok-clause-step : goal.returns-in-Ok-clause-step
returns-in-Ok-clause-step g c line =
    let s = g.P.Plant.state c.args.plant.now in let t = c.args.config.now in let h = c.args.tables.now in let ev = c.args.journal.now.events in
    let k = (here s t h ev).control in
    found-changes s t h ev line c.args.devs.now.dev c.args.l.0 c.args.s.0 (λ owner x. option_or (outside_refusal x c.args.l.0) (option_or (master_refusal k x.mirror) (drop_refusal x.mirror))) (λ owner x. with_sessions (changed c.args.s.0 unmirrored))
    c.in_default.field-0.0 c.in_default.ensures.found (here s t (record h { sessions = c.drop_master.new.self }) ev) (λ x there i. option_or (sym (c.in_default-outside_refusal.ensures.refusal x there) i) (option_or (sym (c.in_default-master_refusal.ensures.refusal t h ev ∙ ap (λ o. master_refusal k (mirror_in o)) there) i) (sym (c.in-Ok.ensures.refused ∙ ap (λ o. drop_refusal (mirror_in o)) there) i)))
    (λ x there. sessions-are s t h ev line (changed c.args.s.0 unmirrored) c.drop_master.new.self (ap (λ x. x.sessions) c.in-Ok.ensures.dropped))

pub returns-in-Err-drop_master-clause-step : goal.returns-in-Err-drop_master-clause-step
returns-in-Err-drop_master-clause-step g c line =
    let s = g.P.Plant.state c.args.plant.now in let t = c.args.config.now in let h = c.args.tables.now in let ev = c.args.journal.now.events in
    let k = (here s t h ev).control in
    found-refused s t h ev line c.args.devs.now.dev c.args.l.0 c.args.s.0 (λ owner x. option_or (outside_refusal x c.args.l.0) (option_or (master_refusal k x.mirror) (drop_refusal x.mirror))) (λ owner x. with_sessions (changed c.args.s.0 unmirrored))
    c.in_default.field-0.0 c.in_default.ensures.found c.in-Err-drop_master.why (λ x there i. option_or (sym (c.in_default-outside_refusal.ensures.refusal x there) i) (option_or (sym (c.in_default-master_refusal.ensures.refusal t h ev ∙ ap (λ o. master_refusal k (mirror_in o)) there) i) (sym (c.in-Err-drop_master.ensures.refused ∙ ap (λ o. drop_refusal (mirror_in o)) there) i)))
    ∙ kept-said s t h ev line c.drop_master.new.self (Refused c.in-Err-drop_master.why) (ap (λ x. x.sessions) c.in-Err-drop_master.ensures.same)

pub master_refusal-requires : goal.master_refusal-requires
master_refusal-requires g c =
    record { known = master-low (g.P.Plant.state c.args.plant.now) c.args.config.now c.args.tables.now c.args.journal.now.events c.args.s.0 c.requires.sound }
