use Rattle.std.proofs.Common.{not, ◌&&◌, ap, sym, ◌∙◌, Some}
use Rattle.dr_ids.specs.declared.refusal.Refusal.{Refusal}
use Rattle.dr_model.specs.Entries.{is_running, relation_state}
use Rattle.dr_model.specs.Plans.{is_recorded_target}
use Rattle.dr_model.specs.Refusals.{server_off}
use Rattle.dr_volume.specs.View.{on_seen, volume_seen}
use Rattle.dr_volume.specs.declared.head.Head.{Head}
use Rattle.dr_flash.specs.Heads.{targets_by}
use Rattle.dr_moves.specs.Here.{world_seen}
use Rattle.dr_facts.proofs.Ends.{ends-passed}
use Rattle.dr_moves.proofs.EntryLemmas.{refuses, ends-clear, ends-why}
use Rattle.dr_incr.proofs.checks.target_refusal.Goals as goal
use Rattle.dr_volume.proofs.WorldLaws.{on-seen}

pub returns-then-not-is_on-clause-checked : goal.returns-then-not-is_on-clause-checked
returns-then-not-is_on-clause-checked g c why r events is armed ds =
    refuses armed (world_seen (g.P.Plant.state c.args.plant.now) c.args.config.now r events) (is_running c.args.s.0) (server_off (volume_seen (g.P.Plant.state c.args.plant.now) c.args.config.now c.args.s.0).server) _ _ (ap (on_seen (g.P.Plant.state c.args.plant.now)) (c.server_of-server.ensures.seen (g.P.Plant.state c.args.plant.now)) ∙ on-seen (g.P.Plant.state c.args.plant.now) c.server_of-server.result.0 c.server_of-server.ensures.known ∙ sym c.is_on.ensures ∙ c.if-not-is_on.true)
    (ap (λ n. Some (server_off n)) (sym (c.server_of-server.ensures.seen (g.P.Plant.state c.args.plant.now))))

pub returns-in-Some-clause-checked : goal.returns-in-Some-clause-checked
returns-in-Some-clause-checked g c why r events is armed ds =
    ends-passed armed (world_seen (g.P.Plant.state c.args.plant.now) c.args.config.now r events) (Some c.in-Some.why) (world_seen (g.P.Plant.state c.args.plant.now) c.args.config.now r events) (is_running c.args.s.0) (server_off (volume_seen (g.P.Plant.state c.args.plant.now) c.args.config.now c.args.s.0).server) _ (ap (on_seen (g.P.Plant.state c.args.plant.now)) (c.server_of-server.ensures.seen (g.P.Plant.state c.args.plant.now)) ∙ on-seen (g.P.Plant.state c.args.plant.now) c.server_of-server.result.0 c.server_of-server.ensures.known ∙ sym c.is_on.ensures ∙ c.if-not-is_on.false)
    (ends-why armed (world_seen (g.P.Plant.state c.args.plant.now) c.args.config.now r events) why c.in-Some.why _ (is ∙ c.in-Some.is))

pub returns-then-not-is_recorded_target-clause-checked : goal.returns-then-not-is_recorded_target-clause-checked
returns-then-not-is_recorded_target-clause-checked g c why r events is armed ds =
    ends-passed armed (world_seen (g.P.Plant.state c.args.plant.now) c.args.config.now r events) (Some c.relation_state.result) (world_seen (g.P.Plant.state c.args.plant.now) c.args.config.now r events) (is_running c.args.s.0) (server_off (volume_seen (g.P.Plant.state c.args.plant.now) c.args.config.now c.args.s.0).server) _ (ap (on_seen (g.P.Plant.state c.args.plant.now)) (c.server_of-server.ensures.seen (g.P.Plant.state c.args.plant.now)) ∙ on-seen (g.P.Plant.state c.args.plant.now) c.server_of-server.result.0 c.server_of-server.ensures.known ∙ sym c.is_on.ensures ∙ c.if-not-is_on.false)
    (ends-clear armed (world_seen (g.P.Plant.state c.args.plant.now) c.args.config.now r events) (Some c.relation_state.result) (world_seen (g.P.Plant.state c.args.plant.now) c.args.config.now r events) why _ (is ∙ c.in_default.is)
    (refuses armed (world_seen (g.P.Plant.state c.args.plant.now) c.args.config.now r events) (is_recorded_target c.args.s.0 c.args.t.0) (relation_state (world_seen (g.P.Plant.state c.args.plant.now) c.args.config.now r events).control c.args.t.0) (Some c.relation_state.result) _ (ap (λ (f : Head). targets_by c.args.s.0 f && (not f.revertible && not f.reversing) && f.recorded) (sym c.peek_head.ensures) ∙ sym c.is_recorded_target.ensures ∙ c.if-not-is_recorded_target.true)
    (ap (λ (x : Refusal). Some x) (c.relation_state.ensures.refusal r events))))

pub returns-clause-checked : goal.returns-clause-checked
returns-clause-checked g c why r events is armed u r' ds more =
    ends-passed armed u r' (world_seen (g.P.Plant.state c.args.plant.now) c.args.config.now r events) (is_running c.args.s.0) (server_off (volume_seen (g.P.Plant.state c.args.plant.now) c.args.config.now c.args.s.0).server) _ (ap (on_seen (g.P.Plant.state c.args.plant.now)) (c.server_of-server.ensures.seen (g.P.Plant.state c.args.plant.now)) ∙ on-seen (g.P.Plant.state c.args.plant.now) c.server_of-server.result.0 c.server_of-server.ensures.known ∙ sym c.is_on.ensures ∙ c.if-not-is_on.false)
    (ends-clear armed u r' (world_seen (g.P.Plant.state c.args.plant.now) c.args.config.now r events) why _ (is ∙ c.in_default.is)
    (ends-passed armed u r' (world_seen (g.P.Plant.state c.args.plant.now) c.args.config.now r events) (is_recorded_target c.args.s.0 c.args.t.0) (relation_state (world_seen (g.P.Plant.state c.args.plant.now) c.args.config.now r events).control c.args.t.0) _ (ap (λ (f : Head). targets_by c.args.s.0 f && (not f.revertible && not f.reversing) && f.recorded) (sym c.peek_head.ensures) ∙ sym c.is_recorded_target.ensures ∙ c.if-not-is_recorded_target.false) more))
