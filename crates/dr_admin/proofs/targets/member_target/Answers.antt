use Rattle.std.proofs.Common.{ap, sym, ◌∙◌, not, ◌||◌}
use Rattle.dr_volume.specs.declared.head.Head.{Head}
use Rattle.dr_model.specs.SessionPlans.{the_only, mirrored_targets, settled_target}
use Rattle.dr_moves.specs.Here.{world_seen}
use Rattle.dr_admin.proofs.TargetLemmas.{settled-is, settled-not}
use Rattle.dr_admin.proofs.targets.member_target.Goals as goal

pub returns-in_default-clause-target : goal.returns-in_default-clause-target
returns-in_default-clause-target g c r events =
    ap (settled_target (world_seen (g.P.Plant.state c.args.plant.now) c.args.config.now r events).control) (c.in_default.ensures.target r events)

pub returns-then-is_settled-clause-target : goal.returns-then-is_settled-clause-target
returns-then-is_settled-clause-target g c r events =
    let k = (world_seen (g.P.Plant.state c.args.plant.now) c.args.config.now r events).control in
    settled-is k c.in-Some.u.0 (the_only (mirrored_targets k c.args.b.0)) (c.in-Some.ensures.target r events)
    (ap (λ (f : Head). not (f.revertible || f.reversing)) (sym c.peek_head.ensures) ∙ sym c.is_settled.ensures ∙ c.if-is_settled.true)

pub returns-clause-target : goal.returns-clause-target
returns-clause-target g c r events =
    let k = (world_seen (g.P.Plant.state c.args.plant.now) c.args.config.now r events).control in
    settled-not k c.in-Some.u.0 (the_only (mirrored_targets k c.args.b.0)) (c.in-Some.ensures.target r events)
    (ap (λ (f : Head). not (f.revertible || f.reversing)) (sym c.peek_head.ensures) ∙ sym c.is_settled.ensures ∙ c.if-is_settled.false)
