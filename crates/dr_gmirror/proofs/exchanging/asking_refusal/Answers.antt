use Rattle.std.proofs.Common.{Option, ap, ◌∙◌}
use Rattle.std.specs.Option.{option_or}
use Rattle.dr_ids.specs.declared.refusal.Refusal.{Refusal}
use Rattle.dr_model.specs.Sessions.{session_in, members_in}
use Rattle.dr_model.specs.SessionPlans as plans
use Rattle.dr_moves.specs.Here.{world_seen}
use Rattle.dr_gmirror.proofs.exchanging.asking_refusal.Goals as goal

pub returns-in-Some-clause-refusal : goal.returns-in-Some-clause-refusal
returns-in-Some-clause-refusal g c q events r looks built =
    let k = (world_seen (g.P.Plant.state c.args.plant.now) c.args.config.now q events).control in
    let ms = members_in (session_in c.args.ss.now.sessions c.args.s.0) in
    ap (λ (o : Option Refusal). option_or o (plans.phase_refusal r c.args.server.0 ms)) (c.in-Some.ensures.refusal q events ∙ ap (plans.off_refusal k) looks.runs)

pub returns-clause-refusal : goal.returns-clause-refusal
returns-clause-refusal g c q events r looks built =
    let k = (world_seen (g.P.Plant.state c.args.plant.now) c.args.config.now q events).control in
    let a = c.in_default.ensures.refusal q events ∙ ap (plans.off_refusal k) looks.runs in
    let b = c.phase_refusal.ensures.refusal r looks built in
    λ i. option_or (a i) (b i)
