use Rattle.std.proofs.Common.{ap, sym, ◌∙◌, cond, Some}
use Rattle.dr_ids.specs.declared.refusal.Refusal.{Refusal}
use Rattle.dr_model.specs.Entries.{pair_state}
use Rattle.dr_model.specs.PairEntries.{may_lead, may_follow}
use Rattle.dr_volume.specs.declared.head.Head.{Head}
use Rattle.dr_moves.specs.Here.{world_seen}
use Rattle.dr_facts.proofs.Ends.{ends-passed}
use Rattle.dr_moves.proofs.EntryLemmas.{refuses}
use Rattle.dr_gcopy.specs.Heads.{unpaired_by, may_cascade_by, free_for}
use Rattle.dr_gcopy.proofs.checks.free_refusal.Goals as goal

pub returns-then-not-may_lead-clause-checked : goal.returns-then-not-may_lead-clause-checked
returns-then-not-may_lead-clause-checked g c r events armed ds =
    refuses armed (world_seen (g.P.Plant.state c.args.plant.now) c.args.config.now r events) (may_lead c.args.cascade c.args.a.0 c.args.b.0) (pair_state (world_seen (g.P.Plant.state c.args.plant.now) c.args.config.now r events).control c.args.a.0) (Some c.pair_state.result) _ (ap (λ (h : Head). cond c.args.cascade (may_cascade_by c.args.b.0 h) (unpaired_by h)) (sym c.peek_head.ensures) ∙ sym c.may_lead.ensures ∙ c.if-not-may_lead.true) (ap (λ (x : Refusal). Some x) (c.pair_state.ensures.refusal r events))

pub returns-then-not-may_follow-clause-checked : goal.returns-then-not-may_follow-clause-checked
returns-then-not-may_follow-clause-checked g c r events armed ds =
    ends-passed armed (world_seen (g.P.Plant.state c.args.plant.now) c.args.config.now r events) (Some c.pair_state-then-not-may_follow.result) (world_seen (g.P.Plant.state c.args.plant.now) c.args.config.now r events) (may_lead c.args.cascade c.args.a.0 c.args.b.0) (pair_state (world_seen (g.P.Plant.state c.args.plant.now) c.args.config.now r events).control c.args.a.0) _ (ap (λ (h : Head). cond c.args.cascade (may_cascade_by c.args.b.0 h) (unpaired_by h)) (sym c.peek_head.ensures) ∙ sym c.may_lead.ensures ∙ c.if-not-may_lead.false)
    (refuses armed (world_seen (g.P.Plant.state c.args.plant.now) c.args.config.now r events) (may_follow c.args.a.0 c.args.b.0) (pair_state (world_seen (g.P.Plant.state c.args.plant.now) c.args.config.now r events).control c.args.b.0) (Some c.pair_state-then-not-may_follow.result) _ (ap (free_for c.args.a.0) (sym c.peek_head-2.ensures) ∙ sym c.may_follow.ensures ∙ c.if-not-may_follow.true) (ap (λ (x : Refusal). Some x) (c.pair_state-then-not-may_follow.ensures.refusal r events)))

pub returns-clause-checked : goal.returns-clause-checked
returns-clause-checked g c r events armed u r' ds more =
    ends-passed armed u r' (world_seen (g.P.Plant.state c.args.plant.now) c.args.config.now r events) (may_lead c.args.cascade c.args.a.0 c.args.b.0) (pair_state (world_seen (g.P.Plant.state c.args.plant.now) c.args.config.now r events).control c.args.a.0) _ (ap (λ (h : Head). cond c.args.cascade (may_cascade_by c.args.b.0 h) (unpaired_by h)) (sym c.peek_head.ensures) ∙ sym c.may_lead.ensures ∙ c.if-not-may_lead.false)
    (ends-passed armed u r' (world_seen (g.P.Plant.state c.args.plant.now) c.args.config.now r events) (may_follow c.args.a.0 c.args.b.0) (pair_state (world_seen (g.P.Plant.state c.args.plant.now) c.args.config.now r events).control c.args.b.0) _ (ap (free_for c.args.a.0) (sym c.peek_head-2.ensures) ∙ sym c.may_follow.ensures ∙ c.if-not-may_follow.false)
    (more))
