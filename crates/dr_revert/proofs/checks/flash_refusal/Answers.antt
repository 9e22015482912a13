use Rattle.std.proofs.Common.{◌≡◌, Some, None, false, not, nat_eq, nat_lt, ap, sym, ◌∙◌, ◌&&◌}
use Rattle.std.specs.Prelude.{if◌then◌else◌}
use Rattle.dr_ids.specs.declared.refusal.Refusal.{Refusal}
use Rattle.dr_ids.specs.declared.refusal.Refusal.TheVariants.{Stale, Unsealed}
use Rattle.dr_model.specs.Entries.{relation_state}
use Rattle.dr_model.specs.SessionEntries.{is_flashed, may_flash}
use Rattle.dr_volume.specs.declared.head.Head.{Head}
use Rattle.dr_volume.specs.View.{volume_seen}
use Rattle.dr_moves.specs.Here.{world_seen}
use Rattle.dr_revert.proofs.checks.flash_refusal.Goals as goal

pub returns-then-not-may_flash-clause-refusal : goal.returns-then-not-may_flash-clause-refusal
returns-then-not-may_flash-clause-refusal g c r events =
    let s = g.P.Plant.state c.args.plant.now in
    let f = (volume_seen s c.args.config.now c.args.t.0).fields in
    let b = (volume_seen s c.args.config.now c.args.b.0).fields in
    let k = (world_seen s c.args.config.now r events).control in
    let flashed : is_flashed c.args.n f ≡ false = ap (λ (h : Head). h.revertible && nat_eq h.sequence c.args.n) (sym c.requires.head) ∙ sym c.if-is_flashed.ensures in
    let may : may_flash c.args.b.0 f ≡ false = ap (λ (h : Head). (h.related && nat_eq h.source.0 c.args.b.0) && (h.recorded && (h.inhibited && (not h.reversing && not h.revertible)))) (sym c.requires.head) ∙ sym c.if-not-may_flash.ensures in
    ap (λ (e : Refusal). Some e) (c.relation_state.ensures.refusal r events)
    ∙ sym (λ i. if flashed i then None else if not (may i) then Some (relation_state k c.args.t.0)
    else if not (nat_lt f.floor c.args.n) then Some (Stale c.args.n f.floor)
    else if not (nat_eq b.seal c.args.n) then Some (Unsealed (record { 0 = c.args.b.0 }) b.seal)
    else None)
