use Rattle.std.proofs.Common.{ap, ◌∙◌}
use Rattle.dr_ids.specs.declared.refusal.RelSeen.{RelSeen}
use Rattle.dr_ids.specs.declared.refusal.Refusal.TheVariants.{RelationState}
use Rattle.dr_flash.proofs.StandingLemmas.{relation-is}
use Rattle.dr_flash.proofs.standing.relation_state.Goals as goal

pub returns-clause-refusal : goal.returns-clause-refusal
returns-clause-refusal g c r events =
    ap (λ (x : RelSeen). RelationState c.args.v x)
    (c.relation_by.ensures
    ∙ relation-is (g.P.Plant.state c.args.plant.now) c.args.config.now r events c.args.v.0 c.peek_head-head.result c.look_at_targets.result c.peek_head-head.ensures
    c.look_at_targets.ensures.count c.look_at_targets.ensures.revertible c.look_at_targets.ensures.reversing)
