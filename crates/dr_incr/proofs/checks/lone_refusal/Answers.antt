use Rattle.std.proofs.Common.{Bool, not, ◌&&◌, ◌||◌, ap, sym, ◌∙◌, Some}
use Rattle.dr_ids.specs.declared.refusal.Refusal.{Refusal}
use Rattle.dr_model.specs.Entries.{relation_state, secondary_state}
use Rattle.dr_model.specs.Plans.{is_lone_restore, may_return}
use Rattle.dr_model.specs.Layout.{is_part}
use Rattle.dr_model.specs.Pairs.{is_suspended}
use Rattle.dr_volume.specs.declared.head.Head.{Head}
use Rattle.dr_moves.specs.Here.{world_seen}
use Rattle.dr_facts.proofs.Ends.{ends-passed}
use Rattle.dr_moves.proofs.EntryLemmas.{refuses}
use Rattle.dr_incr.proofs.checks.lone_refusal.Goals as goal

-- a volume with this head may be restored
abbrev may_take : Head → Bool
may_take h = not (is_part h.secondary) && (not (is_part h.primary) || is_suspended h.primary_state)

pub returns-then-has_other_restore-clause-checked : goal.returns-then-has_other_restore-clause-checked
returns-then-has_other_restore-clause-checked g c r events armed ds =
    refuses armed (world_seen (g.P.Plant.state c.args.plant.now) c.args.config.now r events) (is_lone_restore c.args.s.0 c.args.t.0) (relation_state (world_seen (g.P.Plant.state c.args.plant.now) c.args.config.now r events).control c.args.s.0) (Some c.relation_state.result) _ (ap not (sym c.has_other_restore.ensures ∙ c.if-has_other_restore.true))
    (ap (λ (x : Refusal). Some x) (c.relation_state.ensures.refusal r events))

pub returns-then-not-may_return-clause-checked : goal.returns-then-not-may_return-clause-checked
returns-then-not-may_return-clause-checked g c r events armed ds =
    ends-passed armed (world_seen (g.P.Plant.state c.args.plant.now) c.args.config.now r events) (Some c.secondary_state.result) (world_seen (g.P.Plant.state c.args.plant.now) c.args.config.now r events) (is_lone_restore c.args.s.0 c.args.t.0) (relation_state (world_seen (g.P.Plant.state c.args.plant.now) c.args.config.now r events).control c.args.s.0) _ (ap not (sym c.has_other_restore.ensures ∙ c.if-has_other_restore.false))
    (refuses armed (world_seen (g.P.Plant.state c.args.plant.now) c.args.config.now r events) (may_return c.args.s.0) (secondary_state (world_seen (g.P.Plant.state c.args.plant.now) c.args.config.now r events).control c.args.s.0) (Some c.secondary_state.result) _ (ap may_take (sym c.peek_head.ensures) ∙ sym c.may_return.ensures ∙ c.if-not-may_return.true) (ap (λ (x : Refusal). Some x) (c.secondary_state.ensures.refusal r events)))

pub returns-clause-checked : goal.returns-clause-checked
returns-clause-checked g c r events armed u r' ds more =
    ends-passed armed u r' (world_seen (g.P.Plant.state c.args.plant.now) c.args.config.now r events) (is_lone_restore c.args.s.0 c.args.t.0) (relation_state (world_seen (g.P.Plant.state c.args.plant.now) c.args.config.now r events).control c.args.s.0) _ (ap not (sym c.has_other_restore.ensures ∙ c.if-has_other_restore.false))
    (ends-passed armed u r' (world_seen (g.P.Plant.state c.args.plant.now) c.args.config.now r events) (may_return c.args.s.0) (secondary_state (world_seen (g.P.Plant.state c.args.plant.now) c.args.config.now r events).control c.args.s.0) _ (ap may_take (sym c.peek_head.ensures) ∙ sym c.may_return.ensures ∙ c.if-not-may_return.false) more)
