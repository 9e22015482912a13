use Rattle.std.proofs.Common.{Option, ap, ◌∙◌}
use Rattle.std.specs.Option.{option_or}
use Rattle.dr_ids.specs.declared.refusal.Refusal.{Refusal}
use Rattle.dr_model.specs.Sessions.{session_in, members_in}
use Rattle.dr_model.specs.SessionPlans as plans
use Rattle.dr_moves.specs.Here.{world_seen}
use Rattle.dr_gmirror.proofs.ExchangeLemmas.{refusals-grouped}
use Rattle.dr_gmirror.proofs.exchanging.exchange_refusal.Goals as goal

pub returns-in-Some-clause-refusal : goal.returns-in-Some-clause-refusal
returns-in-Some-clause-refusal g c q events r looks built =
    let k = (world_seen (g.P.Plant.state c.args.plant.now) c.args.config.now q events).control in
    let ms = members_in (session_in c.args.ss.now.sessions c.args.s.0) in
    let more : Option Refusal = option_or (plans.off_refusal k c.args.server.0) (plans.apart_refusal k r.server c.args.server.0) in
    ap (λ (o : Option Refusal). option_or o more) (c.in-Some.ensures.refusal q events r looks built)
    ∙ refusals-grouped (plans.off_refusal k r.server) (plans.phase_refusal r c.args.server.0 ms) more

pub returns-in-Some-off_refusal-clause-refusal : goal.returns-in-Some-off_refusal-clause-refusal
returns-in-Some-off_refusal-clause-refusal g c q events r looks built =
    let k = (world_seen (g.P.Plant.state c.args.plant.now) c.args.config.now q events).control in
    let ms = members_in (session_in c.args.ss.now.sessions c.args.s.0) in
    let a = c.in_default.ensures.refusal q events r looks built in
    let d = c.in-Some-off_refusal.ensures.refusal q events in
    (λ i. option_or (a i) (option_or (d i) (plans.apart_refusal k r.server c.args.server.0)))
    ∙ refusals-grouped (plans.off_refusal k r.server) (plans.phase_refusal r c.args.server.0 ms) (option_or (plans.off_refusal k c.args.server.0) (plans.apart_refusal k r.server c.args.server.0))

pub returns-clause-refusal : goal.returns-clause-refusal
returns-clause-refusal g c q events r looks built =
    let k = (world_seen (g.P.Plant.state c.args.plant.now) c.args.config.now q events).control in
    let ms = members_in (session_in c.args.ss.now.sessions c.args.s.0) in
    let a = c.in_default.ensures.refusal q events r looks built in
    let d = c.in_default-off_refusal.ensures.refusal q events in
    let e = c.apart_refusal.ensures.refusal ∙ ap (λ v. plans.apart_refusal k v c.args.server.0) looks.runs in
    (λ i. option_or (a i) (option_or (d i) (e i)))
    ∙ refusals-grouped (plans.off_refusal k r.server) (plans.phase_refusal r c.args.server.0 ms) (option_or (plans.off_refusal k c.args.server.0) (plans.apart_refusal k r.server c.args.server.0))
