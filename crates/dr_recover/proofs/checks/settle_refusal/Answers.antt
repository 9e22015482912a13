use Rattle.std.proofs.Common.{ap, ◌∙◌}
use Rattle.std.specs.Option.{option_or}
use Rattle.dr_model.specs.RecoveryPlans as plans
use Rattle.dr_model.specs.Sessions.{session_in, members_in}
use Rattle.dr_moves.specs.Here.{world_seen}
use Rattle.dr_recover.specs.Outcomes.{lets_by}
use Rattle.dr_recover.proofs.checks.settle_refusal.Goals as goal

pub returns-in-Some-clause-refusal : goal.returns-in-Some-clause-refusal
returns-in-Some-clause-refusal g c r events =
    let k = (world_seen (g.P.Plant.state c.args.plant.now) c.args.config.now r events).control in
    let ms = members_in (session_in c.args.ss.now.sessions c.args.s.0) in
    ap (λ o. option_or o (option_or (plans.untaken_refusal ms k) (plans.forbidden_unless (lets_by c.args.commit c.args.decided) c.args.decided))) (c.in-Some.ensures.refusal r events)

pub returns-in-Some-untaken_refusal-clause-refusal : goal.returns-in-Some-untaken_refusal-clause-refusal
returns-in-Some-untaken_refusal-clause-refusal g c r events = λ i.
    option_or (c.in_default.ensures.refusal r events i) (option_or (c.in-Some-untaken_refusal.ensures.refusal r events i) (plans.forbidden_unless (lets_by c.args.commit c.args.decided) c.args.decided))

pub returns-clause-refusal : goal.returns-clause-refusal
returns-clause-refusal g c r events =
    c.forbidden_unless.ensures.refusal
    ∙ ap (λ b. plans.forbidden_unless b c.args.decided) c.lets.ensures
    ∙ (λ i. option_or (c.in_default.ensures.refusal r events i) (option_or (c.in_default-untaken_refusal.ensures.refusal r events i) (plans.forbidden_unless (lets_by c.args.commit c.args.decided) c.args.decided)))
