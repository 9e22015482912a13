use Rattle.std.proofs.Common.{Option, None, Some, ap, sym, ◌∙◌}
use Rattle.dr_ids.specs.declared.refusal.Refusal.{Refusal}
use Rattle.dr_model.specs.Entries.{fields_at, pair_state}
use Rattle.dr_model.specs.Layout.{is_part}
use Rattle.dr_volume.specs.declared.head.Head.{Head}
use Rattle.dr_moves.specs.Here.{world_seen}
use Rattle.dr_gcopy.proofs.SendLemmas.{pick-true, pick-false}
use Rattle.dr_admin.proofs.pairing.lead_refusal.Goals as goal

pub returns-then-is_part-clause-refusal : goal.returns-then-is_part-clause-refusal
returns-then-is_part-clause-refusal g c r events =
    let k = (world_seen (g.P.Plant.state c.args.plant.now) c.args.config.now r events).control in
    let b = c.args.b.0 in
    let none : Option Refusal = None in
    ap (λ (x : Refusal). Some x) (c.pair_state.ensures.refusal r events)
    ∙ pick-true (is_part (fields_at k b).primary) (Some (pair_state k b)) none (ap (λ (h : Head). is_part h.primary) (sym c.peek_head.ensures) ∙ sym c.is_part.ensures ∙ c.if-is_part.true)

pub returns-clause-refusal : goal.returns-clause-refusal
returns-clause-refusal g c r events =
    let k = (world_seen (g.P.Plant.state c.args.plant.now) c.args.config.now r events).control in
    let b = c.args.b.0 in
    let none : Option Refusal = None in
    pick-false (is_part (fields_at k b).primary) (Some (pair_state k b)) none (ap (λ (h : Head). is_part h.primary) (sym c.peek_head.ensures) ∙ sym c.is_part.ensures ∙ c.if-is_part.false)
