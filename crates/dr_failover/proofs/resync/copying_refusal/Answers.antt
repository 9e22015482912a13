use Rattle.std.proofs.Common.{◌&&◌, true, false, ap, sym, ◌∙◌, Some}
use Rattle.dr_model.specs.Entries.{is_running}
use Rattle.dr_model.specs.Layout.{is_part}
use Rattle.dr_model.specs.Pairs.{is_pending}
use Rattle.dr_model.specs.Refusals.{server_off}
use Rattle.dr_ids.specs.declared.refusal.Refusal.{Refusal}
use Rattle.dr_volume.specs.declared.head.Head.{Head}
use Rattle.dr_moves.specs.Here.{world_seen}
use Rattle.dr_gcopy.proofs.ReachLemmas.{running-is}
use Rattle.dr_failover.proofs.ResyncLemmas.{checked-why, refused-off, refused-by}
use Rattle.dr_failover.proofs.resync.copying_refusal.Goals as goal

pub returns-in-Some-clause-refusal : goal.returns-in-Some-clause-refusal
returns-in-Some-clause-refusal g c r events =
    let w = world_seen (g.P.Plant.state c.args.plant.now) c.args.config.now r events in
    let off = checked-why w (is_running c.args.x.0) (server_off (w.control.volume c.args.x.0).server) c.in-Some.why (c.in-Some.ensures.checked r events) in
    refused-off w c.args.x.0 c.in-Some.why off.0 off.1

pub returns-then-not-is_copying-clause-refusal : goal.returns-then-not-is_copying-clause-refusal
returns-then-not-is_copying-clause-refusal g c r events =
    let s = g.P.Plant.state c.args.plant.now in
    let t = c.args.config.now in
    ap (λ (e : Refusal). Some e) (c.pair_state.ensures.refusal r events)
    ∙ refused-by (world_seen s t r events) c.args.x.0 false (running-is s t c.args.x.0 c.requires.rest.stands c.requires.defined ∙ c.in_default.ensures.running)
    (ap (λ (h : Head). is_part h.primary && is_pending h.primary_state) (sym c.peek_head.ensures) ∙ sym c.is_copying.ensures ∙ c.if-not-is_copying.true)

pub returns-clause-refusal : goal.returns-clause-refusal
returns-clause-refusal g c r events =
    let s = g.P.Plant.state c.args.plant.now in
    let t = c.args.config.now in
    refused-by (world_seen s t r events) c.args.x.0 true (running-is s t c.args.x.0 c.requires.rest.stands c.requires.defined ∙ c.in_default.ensures.running)
    (ap (λ (h : Head). is_part h.primary && is_pending h.primary_state) (sym c.peek_head.ensures) ∙ sym c.is_copying.ensures ∙ c.if-not-is_copying.false)
