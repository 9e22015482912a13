use Rattle.std.proofs.Common.{ap, sym, ◌∙◌, None, Some}
use Rattle.dr_ids.specs.declared.refusal.Refusal.{Refusal}
use Rattle.dr_model.specs.Entries.{stands_in, is_revertible, relation_state}
use Rattle.dr_moves.specs.Here.{world_seen}
use Rattle.dr_gcopy.proofs.SendLemmas.{pick-true, pick-false}
use Rattle.dr_gcopy.proofs.receiving.flashed_refusal.Goals as goal

pub returns-then-is_revertible-clause-refusal : goal.returns-then-is_revertible-clause-refusal
returns-then-is_revertible-clause-refusal g c r events =
    ap (λ (x : Refusal). Some x) (c.relation_state.ensures.refusal r events)
    ∙ pick-true (stands_in is_revertible (world_seen (g.P.Plant.state c.args.plant.now) c.args.config.now r events).control c.args.b.0) (Some (relation_state (world_seen (g.P.Plant.state c.args.plant.now) c.args.config.now r events).control c.args.b.0)) None (sym (c.is_revertible.ensures r events) ∙ c.if-is_revertible.true)

pub returns-clause-refusal : goal.returns-clause-refusal
returns-clause-refusal g c r events =
    pick-false (stands_in is_revertible (world_seen (g.P.Plant.state c.args.plant.now) c.args.config.now r events).control c.args.b.0) (Some (relation_state (world_seen (g.P.Plant.state c.args.plant.now) c.args.config.now r events).control c.args.b.0)) None (sym (c.is_revertible.ensures r events) ∙ c.if-is_revertible.false)
