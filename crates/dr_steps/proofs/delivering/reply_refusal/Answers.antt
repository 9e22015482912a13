use Rattle.std.proofs.Common.{[], ap, ◌∙◌}
use Rattle.std.specs.Option.{option_or}
use Rattle.dr_model.specs.Messages.{Replies}
use Rattle.dr_model.specs.MessagePlans as plans
use Rattle.dr_model.specs.SessionPlans.{off_refusal, apart_refusal}
use Rattle.dr_model.specs.Sessions.{session_in, mirror_in}
use Rattle.dr_steps.specs.Arrivals.{message_at}
use Rattle.dr_steps.specs.Here.{here}
use Rattle.dr_steps.proofs.DeliverLemmas.{has-master, reply-by}
use Rattle.dr_steps.proofs.delivering.reply_refusal.Goals as goal

pub returns-in-Some-off_refusal-clause-refusal : goal.returns-in-Some-off_refusal-clause-refusal
returns-in-Some-off_refusal-clause-refusal g c reply =
    let k = (here (g.P.Plant.state c.args.plant.now) c.args.config.now c.args.tables.now []).control in
    let m = message_at c.args.x.now (Replies reply) in
    let h = has-master (session_in k.sessions m.session) c.in-Some.master.0 c.in-Some.ensures in
    let off = c.in-Some-off_refusal.ensures.refusal c.args.config.now c.args.tables.now [] ∙ ap (off_refusal k) h.runs in
    ap (λ o. option_or o (option_or (apart_refusal k h.mirror.server m.server) (plans.old_refusal m (plans.is_awaited k.flight h.mirror m)))) off
    ∙ reply-by k m c.in-Some.master.0 h

pub returns-in-Some-apart_refusal-clause-refusal : goal.returns-in-Some-apart_refusal-clause-refusal
returns-in-Some-apart_refusal-clause-refusal g c reply =
    let k = (here (g.P.Plant.state c.args.plant.now) c.args.config.now c.args.tables.now []).control in
    let m = message_at c.args.x.now (Replies reply) in
    let h = has-master (session_in k.sessions m.session) c.in-Some.master.0 c.in-Some.ensures in
    let off = c.in_default-off_refusal.ensures.refusal c.args.config.now c.args.tables.now [] ∙ ap (off_refusal k) h.runs in
    let apart = c.in-Some-apart_refusal.ensures.refusal ∙ ap (λ q. apart_refusal k q m.server) h.runs in
    (λ i. option_or (off i) (option_or (apart i) (plans.old_refusal m (plans.is_awaited k.flight h.mirror m))))
    ∙ reply-by k m c.in-Some.master.0 h

pub returns-clause-refusal : goal.returns-clause-refusal
returns-clause-refusal g c reply =
    let k = (here (g.P.Plant.state c.args.plant.now) c.args.config.now c.args.tables.now []).control in
    let m = message_at c.args.x.now (Replies reply) in
    let h = has-master (session_in k.sessions m.session) c.in-Some.master.0 c.in-Some.ensures in
    let off = c.in_default-off_refusal.ensures.refusal c.args.config.now c.args.tables.now [] ∙ ap (off_refusal k) h.runs in
    let apart = c.in_default-apart_refusal.ensures.refusal ∙ ap (λ q. apart_refusal k q m.server) h.runs in
    let old = c.old_refusal.ensures.refusal ∙ ap (plans.old_refusal m) (c.is_awaited.ensures h.mirror reply (ap mirror_in h.found ∙ h.has)) in
    (λ i. option_or (off i) (option_or (apart i) (old i)))
    ∙ reply-by k m c.in-Some.master.0 h
