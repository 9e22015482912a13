use Rattle.std.proofs.Common.{ap, sym, ◌∙◌, Some}
use Rattle.dr_ids.specs.declared.refusal.Refusal.{Refusal}
use Rattle.dr_model.specs.Entries.{is_settled, relation_state}
use Rattle.dr_moves.specs.Here.{world_seen}
use Rattle.dr_facts.proofs.Ends.{ends-passed}
use Rattle.dr_moves.proofs.EntryLemmas.{refuses}
use Rattle.dr_failover.proofs.checks.settled_refusal.Goals as goal

pub returns-then-not-is_settled-clause-checked : goal.returns-then-not-is_settled-clause-checked
returns-then-not-is_settled-clause-checked g c r events armed ds =
    let w = world_seen (g.P.Plant.state c.args.plant.now) c.args.config.now r events in
    refuses armed w (is_settled c.args.y.0) (relation_state w.control c.args.y.0) (Some c.relation_state.result) _
    (sym (c.is_settled.ensures r events) ∙ c.if-not-is_settled.true)
    (ap (λ (x : Refusal). Some x) (c.relation_state.ensures.refusal r events))

pub returns-then-not-is_settled-2-clause-checked : goal.returns-then-not-is_settled-2-clause-checked
returns-then-not-is_settled-2-clause-checked g c r events armed ds =
    let w = world_seen (g.P.Plant.state c.args.plant.now) c.args.config.now r events in
    ends-passed armed w (Some c.relation_state-then-not-is_settled-2.result) w (is_settled c.args.y.0) (relation_state w.control c.args.y.0) _
    (sym (c.is_settled.ensures r events) ∙ c.if-not-is_settled.false)
    (refuses armed w (is_settled c.args.x.0) (relation_state w.control c.args.x.0) (Some c.relation_state-then-not-is_settled-2.result) _
    (sym (c.is_settled-2.ensures r events) ∙ c.if-not-is_settled-2.true)
    (ap (λ (x : Refusal). Some x) (c.relation_state-then-not-is_settled-2.ensures.refusal r events)))

pub returns-clause-checked : goal.returns-clause-checked
returns-clause-checked g c r events armed u r' ds more =
    let w = world_seen (g.P.Plant.state c.args.plant.now) c.args.config.now r events in
    ends-passed armed u r' w (is_settled c.args.y.0) (relation_state w.control c.args.y.0) _
    (sym (c.is_settled.ensures r events) ∙ c.if-not-is_settled.false)
    (ends-passed armed u r' w (is_settled c.args.x.0) (relation_state w.control c.args.x.0) _
    (sym (c.is_settled-2.ensures r events) ∙ c.if-not-is_settled-2.false)
    more)
