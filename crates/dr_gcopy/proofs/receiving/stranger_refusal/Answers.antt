use Rattle.std.proofs.Common.{ap, sym, ◌∙◌, None, Some}
use Rattle.dr_ids.specs.declared.refusal.Refusal.{Refusal}
use Rattle.dr_model.specs.Entries.{secondary_state}
use Rattle.dr_model.specs.PairEntries.{belongs_to}
use Rattle.dr_moves.specs.Here.{world_seen}
use Rattle.dr_gcopy.specs.Heads.{secondary_by}
use Rattle.dr_gcopy.proofs.SendLemmas.{pick-false}
use Rattle.dr_gcopy.proofs.receiving.stranger_refusal.Goals as goal

pub returns-clause-refusal : goal.returns-clause-refusal
returns-clause-refusal g c r events =
    ap (λ (x : Refusal). Some x) (c.secondary_state.ensures.refusal r events)
    ∙ pick-false (belongs_to c.args.a.0 c.args.b.0 (world_seen (g.P.Plant.state c.args.plant.now) c.args.config.now r events).control) None (Some (secondary_state (world_seen (g.P.Plant.state c.args.plant.now) c.args.config.now r events).control c.args.b.0)) (ap (secondary_by c.args.a.0) (sym c.peek_head.ensures) ∙ sym c.is_secondary_by.ensures ∙ c.if-is_secondary_by.false)
