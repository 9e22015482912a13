use Rattle.std.proofs.Common.{ap, sym, ◌∙◌}
use Rattle.dr_model.specs.Plans.{restores_refusal}
use Rattle.dr_moves.specs.Here.{world_seen}
use Rattle.dr_gmirror.specs.Orders.{with_sessions}
use Rattle.dr_failover.proofs.looks.yield_refusal.Goals as goal

pub returns-in_default-clause-refusal : goal.returns-in_default-clause-refusal
returns-in_default-clause-refusal g c r events =
    let q = with_sessions c.args.ss.now.sessions r in
    ap (λ o. restores_refusal o (world_seen (g.P.Plant.state c.args.plant.now) c.args.config.now q events).control) (c.in_default.ensures.target q events)

pub returns-clause-refusal : goal.returns-clause-refusal
returns-clause-refusal g c r events =
    let q = with_sessions c.args.ss.now.sessions r in
    sym (c.restore_refusal.ensures.refusal r events) ∙ ap (λ o. restores_refusal o (world_seen (g.P.Plant.state c.args.plant.now) c.args.config.now q events).control) (c.in-Some.ensures.target q events)
