use Rattle.std.proofs.Common.{ap, sym, ◌∙◌, not, Some}
use Rattle.dr_ids.specs.declared.refusal.Refusal.{Refusal}
use Rattle.dr_volume.specs.declared.head.Head.{Head}
use Rattle.dr_model.specs.Entries.{relation_state, is_no_target, is_settled}
use Rattle.dr_moves.specs.Here.{world_seen}
use Rattle.dr_facts.proofs.Ends.{ends-passed}
use Rattle.dr_moves.proofs.EntryLemmas.{refuses}
use Rattle.dr_gcopy.proofs.checks.flash_refusal.Goals as goal

pub returns-then-peek_head-clause-checked : goal.returns-then-peek_head-clause-checked
returns-then-peek_head-clause-checked g c r events armed ds =
    refuses armed (world_seen (g.P.Plant.state c.args.plant.now) c.args.config.now r events) (is_no_target c.args.a.0) (relation_state (world_seen (g.P.Plant.state c.args.plant.now) c.args.config.now r events).control c.args.a.0) (Some c.relation_state.result) _ (ap not (sym (ap (λ (h : Head). h.related) c.peek_head.ensures) ∙ c.if-peek_head.true)) (ap (λ (x : Refusal). Some x) (c.relation_state.ensures.refusal r events))

pub returns-then-peek_head-2-clause-checked : goal.returns-then-peek_head-2-clause-checked
returns-then-peek_head-2-clause-checked g c r events armed ds =
    ends-passed armed (world_seen (g.P.Plant.state c.args.plant.now) c.args.config.now r events) (Some c.relation_state-then-peek_head-2.result) (world_seen (g.P.Plant.state c.args.plant.now) c.args.config.now r events) (is_no_target c.args.a.0) (relation_state (world_seen (g.P.Plant.state c.args.plant.now) c.args.config.now r events).control c.args.a.0) _ (ap not (sym (ap (λ (h : Head). h.related) c.peek_head.ensures) ∙ c.if-peek_head.false))
    (refuses armed (world_seen (g.P.Plant.state c.args.plant.now) c.args.config.now r events) (is_no_target c.args.b.0) (relation_state (world_seen (g.P.Plant.state c.args.plant.now) c.args.config.now r events).control c.args.b.0) (Some c.relation_state-then-peek_head-2.result) _ (ap not (sym (ap (λ (h : Head). h.related) c.peek_head-2.ensures) ∙ c.if-peek_head-2.true)) (ap (λ (x : Refusal). Some x) (c.relation_state-then-peek_head-2.ensures.refusal r events)))

pub returns-then-not-is_settled-clause-checked : goal.returns-then-not-is_settled-clause-checked
returns-then-not-is_settled-clause-checked g c r events armed ds =
    ends-passed armed (world_seen (g.P.Plant.state c.args.plant.now) c.args.config.now r events) (Some c.relation_state-then-not-is_settled.result) (world_seen (g.P.Plant.state c.args.plant.now) c.args.config.now r events) (is_no_target c.args.a.0) (relation_state (world_seen (g.P.Plant.state c.args.plant.now) c.args.config.now r events).control c.args.a.0) _ (ap not (sym (ap (λ (h : Head). h.related) c.peek_head.ensures) ∙ c.if-peek_head.false))
    (ends-passed armed (world_seen (g.P.Plant.state c.args.plant.now) c.args.config.now r events) (Some c.relation_state-then-not-is_settled.result) (world_seen (g.P.Plant.state c.args.plant.now) c.args.config.now r events) (is_no_target c.args.b.0) (relation_state (world_seen (g.P.Plant.state c.args.plant.now) c.args.config.now r events).control c.args.b.0) _ (ap not (sym (ap (λ (h : Head). h.related) c.peek_head-2.ensures) ∙ c.if-peek_head-2.false))
    (refuses armed (world_seen (g.P.Plant.state c.args.plant.now) c.args.config.now r events) (is_settled c.args.b.0) (relation_state (world_seen (g.P.Plant.state c.args.plant.now) c.args.config.now r events).control c.args.b.0) (Some c.relation_state-then-not-is_settled.result) _ (sym (c.is_settled.ensures r events) ∙ c.if-not-is_settled.true) (ap (λ (x : Refusal). Some x) (c.relation_state-then-not-is_settled.ensures.refusal r events))))

pub returns-clause-checked : goal.returns-clause-checked
returns-clause-checked g c r events armed u r' ds more =
    ends-passed armed u r' (world_seen (g.P.Plant.state c.args.plant.now) c.args.config.now r events) (is_no_target c.args.a.0) (relation_state (world_seen (g.P.Plant.state c.args.plant.now) c.args.config.now r events).control c.args.a.0) _ (ap not (sym (ap (λ (h : Head). h.related) c.peek_head.ensures) ∙ c.if-peek_head.false))
    (ends-passed armed u r' (world_seen (g.P.Plant.state c.args.plant.now) c.args.config.now r events) (is_no_target c.args.b.0) (relation_state (world_seen (g.P.Plant.state c.args.plant.now) c.args.config.now r events).control c.args.b.0) _ (ap not (sym (ap (λ (h : Head). h.related) c.peek_head-2.ensures) ∙ c.if-peek_head-2.false))
    (ends-passed armed u r' (world_seen (g.P.Plant.state c.args.plant.now) c.args.config.now r events) (is_settled c.args.b.0) (relation_state (world_seen (g.P.Plant.state c.args.plant.now) c.args.config.now r events).control c.args.b.0) _ (sym (c.is_settled.ensures r events) ∙ c.if-not-is_settled.false)
    (more)))
