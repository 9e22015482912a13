use Rattle.std.proofs.Common.{ap, sym, ◌∙◌, Some}
use Rattle.std.specs.Option.{option_or}
use Rattle.dr_ids.specs.declared.refusal.Refusal.{Refusal}
use Rattle.dr_model.specs.declared.state.Part.TheVariants.{Global}
use Rattle.dr_volume.specs.declared.head.Head.{Head}
use Rattle.dr_model.specs.Pairs.{is_kind}
use Rattle.dr_model.specs.PairEntries.{send_refusal}
use Rattle.dr_model.specs.SessionPlans.{lead_refusal}
use Rattle.dr_moves.specs.Here.{world_seen}
use Rattle.dr_volume.specs.View.{on_seen}
use Rattle.dr_admin.proofs.PairLemmas.{copy-other, copy-global}
use Rattle.dr_admin.proofs.pairing.copy_refusal.Goals as goal
use Rattle.dr_volume.proofs.WorldLaws.{on-seen}

pub returns-then-not-is_global-clause-refusal : goal.returns-then-not-is_global-clause-refusal
returns-then-not-is_global-clause-refusal g c r events =
    let s = g.P.Plant.state c.args.plant.now in
    let k = (world_seen s c.args.config.now r events).control in
    ap (λ (x : Refusal). Some x) (c.pair_state.ensures.refusal r events)
    ∙ copy-other k c.args.a.0 (ap (on_seen s) (c.server_of-server.ensures.seen s) ∙ on-seen s c.server_of-server.result.0 c.server_of-server.ensures.known ∙ sym c.is_on.ensures ∙ c.if-not-is_on.false)
    (ap (λ (f : Head). is_kind Global f.primary) (sym c.peek_head-f.ensures) ∙ sym c.is_global.ensures ∙ c.if-not-is_global.true)

pub returns-in-Some-clause-refusal : goal.returns-in-Some-clause-refusal
returns-in-Some-clause-refusal g c r events =
    let s = g.P.Plant.state c.args.plant.now in
    let k = (world_seen s c.args.config.now r events).control in
    ap (λ o. option_or o (lead_refusal c.peek_head-f.result.primary_partner.0 k)) (c.in-Some.ensures.refusal r events)
    ∙ ap (λ (f : Head). option_or (send_refusal c.args.a.0 f.primary_partner.0 k) (lead_refusal f.primary_partner.0 k)) c.peek_head-f.ensures
    ∙ copy-global k c.args.a.0 (ap (on_seen s) (c.server_of-server.ensures.seen s) ∙ on-seen s c.server_of-server.result.0 c.server_of-server.ensures.known ∙ sym c.is_on.ensures ∙ c.if-not-is_on.false)
    (ap (λ (f : Head). is_kind Global f.primary) (sym c.peek_head-f.ensures) ∙ sym c.is_global.ensures ∙ c.if-not-is_global.false)

pub returns-clause-refusal : goal.returns-clause-refusal
returns-clause-refusal g c r events =
    let s = g.P.Plant.state c.args.plant.now in
    let k = (world_seen s c.args.config.now r events).control in
    c.lead_refusal.ensures.refusal r events
    ∙ ap (λ o. option_or o (lead_refusal c.peek_head-f.result.primary_partner.0 k)) (c.in_default.ensures.refusal r events)
    ∙ ap (λ (f : Head). option_or (send_refusal c.args.a.0 f.primary_partner.0 k) (lead_refusal f.primary_partner.0 k)) c.peek_head-f.ensures
    ∙ copy-global k c.args.a.0 (ap (on_seen s) (c.server_of-server.ensures.seen s) ∙ on-seen s c.server_of-server.result.0 c.server_of-server.ensures.known ∙ sym c.is_on.ensures ∙ c.if-not-is_on.false)
    (ap (λ (f : Head). is_kind Global f.primary) (sym c.peek_head-f.ensures) ∙ sym c.is_global.ensures ∙ c.if-not-is_global.false)
