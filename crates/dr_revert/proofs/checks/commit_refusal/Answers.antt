use Rattle.std.proofs.Common.{◌≡◌, ◌||◌, Some, None, false, ap, sym, ◌∙◌, ◌&&◌, not, nat_eq}
use Rattle.std.specs.Prelude.{if◌then◌else◌}
use Rattle.dr_ids.specs.declared.refusal.Refusal.{Refusal}
use Rattle.dr_model.specs.Entries.{relation_state}
use Rattle.dr_model.specs.SessionEntries.{is_flashed, is_committed}
use Rattle.dr_volume.specs.declared.head.Head.{Head}
use Rattle.dr_volume.specs.View.{volume_seen}
use Rattle.dr_moves.specs.Here.{world_seen}
use Rattle.dr_revert.proofs.checks.commit_refusal.Goals as goal

pub returns-clause-refusal : goal.returns-clause-refusal
returns-clause-refusal g c r events =
    let s = g.P.Plant.state c.args.plant.now in
    let f = (volume_seen s c.args.config.now c.args.t.0).fields in
    let k = (world_seen s c.args.config.now r events).control in
    let committed : is_committed c.args.n f ≡ false = ap (λ (h : Head). h.member && (nat_eq h.sequence c.args.n && not h.revertible)) (sym c.requires.head) ∙ sym c.if-is_committed.ensures in
    let flashed : is_flashed c.args.n f ≡ false = ap (λ (h : Head). h.revertible && nat_eq h.sequence c.args.n) (sym c.requires.head) ∙ sym c.if-is_flashed.ensures in
    ap (λ (e : Refusal). Some e) (c.relation_state.ensures.refusal r events)
    ∙ sym (λ i. if committed i || flashed i then None else Some (relation_state k c.args.t.0))
