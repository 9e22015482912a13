use Rattle.std.proofs.Common.{[], ap, ◌∙◌}
use Rattle.std.specs.Option.{option_or}
use Rattle.dr_ctl.specs.Kept.{is_current_in}
use Rattle.dr_model.specs.Messages.{Asks, is_current}
use Rattle.dr_model.specs.MessagePlans as plans
use Rattle.dr_model.specs.SessionPlans.{apart_refusal}
use Rattle.dr_model.specs.Sessions.{session_in}
use Rattle.dr_steps.specs.Arrivals.{message_at, order_refusal_by}
use Rattle.dr_steps.specs.Here.{here}
use Rattle.dr_steps.proofs.ExchangeLemmas.{some-defined}
use Rattle.dr_steps.proofs.DeliverLemmas.{has-master, order-of, order-alone, order-by}
use Rattle.dr_steps.proofs.delivering.order_refusal.Goals as goal

pub returns-in-Some-clause-refusal : goal.returns-in-Some-clause-refusal
returns-in-Some-clause-refusal g c starts found =
    let k = (here (g.P.Plant.state c.args.plant.now) c.args.config.now c.args.tables.now []).control in
    let x = c.args.x.now in
    let y = some-defined c.is_defined.result (session_in k.sessions x.session.0) c.if-not-is_defined.false c.is_defined.ensures in
    ap (λ o. option_or o (order_refusal_by k x starts y.0.mirror)) (c.in-Some.ensures.refusal c.args.config.now c.args.tables.now [])
    ∙ order-of k x starts y.0 y.1

pub returns-in_default-master_server-clause-refusal : goal.returns-in_default-master_server-clause-refusal
returns-in_default-master_server-clause-refusal g c starts found =
    let k = (here (g.P.Plant.state c.args.plant.now) c.args.config.now c.args.tables.now []).control in
    let x = c.args.x.now in
    let y = some-defined c.is_defined.result (session_in k.sessions x.session.0) c.if-not-is_defined.false c.is_defined.ensures in
    c.no_master.ensures
    ∙ order-alone k x starts y.0 y.1 (c.in_default.ensures.refusal c.args.config.now c.args.tables.now []) c.in_default-master_server.ensures

pub returns-in-Some-apart_refusal-clause-refusal : goal.returns-in-Some-apart_refusal-clause-refusal
returns-in-Some-apart_refusal-clause-refusal g c starts found =
    let k = (here (g.P.Plant.state c.args.plant.now) c.args.config.now c.args.tables.now []).control in
    let x = c.args.x.now in
    let m = message_at x (Asks starts) in
    let h = has-master (session_in k.sessions x.session.0) c.in-Some-master_server.master.0 c.in-Some-master_server.ensures in
    let off = c.in_default.ensures.refusal c.args.config.now c.args.tables.now [] in
    let apart = c.in-Some-apart_refusal.ensures.refusal ∙ ap (λ q. apart_refusal k q m.server) h.runs in
    (λ i. option_or (off i) (option_or (apart i) (option_or (plans.full_refusal k.flight) (plans.old_refusal m (is_current k.flight m starts)))))
    ∙ order-by k x starts c.in-Some-master_server.master.0 h

pub returns-in-Some-full_refusal-clause-refusal : goal.returns-in-Some-full_refusal-clause-refusal
returns-in-Some-full_refusal-clause-refusal g c starts found =
    let k = (here (g.P.Plant.state c.args.plant.now) c.args.config.now c.args.tables.now []).control in
    let x = c.args.x.now in
    let m = message_at x (Asks starts) in
    let h = has-master (session_in k.sessions x.session.0) c.in-Some-master_server.master.0 c.in-Some-master_server.ensures in
    let off = c.in_default.ensures.refusal c.args.config.now c.args.tables.now [] in
    let apart = c.in_default-apart_refusal.ensures.refusal ∙ ap (λ q. apart_refusal k q m.server) h.runs in
    let full = c.in-Some-full_refusal.ensures.refusal in
    (λ i. option_or (off i) (option_or (apart i) (option_or (full i) (plans.old_refusal m (is_current k.flight m starts)))))
    ∙ order-by k x starts c.in-Some-master_server.master.0 h

pub returns-clause-refusal : goal.returns-clause-refusal
returns-clause-refusal g c starts found =
    let k = (here (g.P.Plant.state c.args.plant.now) c.args.config.now c.args.tables.now []).control in
    let x = c.args.x.now in
    let m = message_at x (Asks starts) in
    let h = has-master (session_in k.sessions x.session.0) c.in-Some-master_server.master.0 c.in-Some-master_server.ensures in
    let off = c.in_default.ensures.refusal c.args.config.now c.args.tables.now [] in
    let apart = c.in_default-apart_refusal.ensures.refusal ∙ ap (λ q. apart_refusal k q m.server) h.runs in
    let full = c.in_default-full_refusal.ensures.refusal in
    let old = c.old_refusal.ensures.refusal ∙ ap (plans.old_refusal m) (c.is_current.ensures ∙ ap (is_current_in k.flight) found) in
    (λ i. option_or (off i) (option_or (apart i) (option_or (full i) (old i))))
    ∙ order-by k x starts c.in-Some-master_server.master.0 h
