use Rattle.std.proofs.Common.{arith, ap, sym, ◌∙◌}
use Rattle.dr_model.specs.Plans.{counted_refusal}
use Rattle.dr_flash.specs.Standing.{counted_by}
use Rattle.dr_moves.specs.Here.{world_seen, armed_in, refusal_of}
use Rattle.dr_moves.proofs.EntryLemmas.{counted-stop, ends-by, only-stops}
use Rattle.dr_moves.proofs.TurnLemmas.{ok-along, err-along}
use Rattle.dr_incr.specs.Steps.{resync_entries}
use Rattle.dr_incr.proofs.StepLemmas.{stop-refused}
use Rattle.dr_incr.proofs.TargetLemmas.{target-of}
use Rattle.dr_incr.proofs.CopyLaws.{copy-shown}
use Rattle.dr_incr.proofs.renewal.resync.Goals as goal

pub returns-in-Some-clause-carried : goal.returns-in-Some-clause-carried
returns-in-Some-clause-carried g c r = c.in-Some.ensures.checked (counted_refusal c.args.t.0) r c.args.journal.now.events (ap counted_by (sym c.peek_head.ensures) ∙ sym c.counted_refusal-first.ensures.refusal) (armed_in (g.P.Plant.state c.args.plant.now)) _

pub returns-in-Some-clause-fails : goal.returns-in-Some-clause-fails
returns-in-Some-clause-fails g c r ds = c.in-Some.ensures.checked (counted_refusal c.args.t.0) r c.args.journal.now.events (ap counted_by (sym c.peek_head.ensures) ∙ sym c.counted_refusal-first.ensures.refusal) (armed_in (g.P.Plant.state c.args.plant.now)) _

pub make_move-requires-clause-may : goal.make_move-requires-clause-may
make_move-requires-clause-may g c =
    let s = g.P.Plant.state c.args.plant.now in
    let to = target-of s c.args.config.now c.args.s.0 c.args.t.0 c.requires.fit c.in_default.ensures.related in
    record { defined = c.requires.target; running = ap s.on to.server ∙ c.in_default.ensures.running; asks = to.related }

pub returns-clause-room_left : goal.returns-clause-room_left
returns-clause-room_left g c = ok-along c.make_move.result c.make_move.ensures.room_left (λ is. omega (arith, is))

pub returns-clause-leads : goal.returns-clause-leads
returns-clause-leads g c =
    ok-along c.make_move.result c.make_move.ensures.entered.advances (λ goes r armed u r' ds more.
    c.in_default.ensures.checked (counted_refusal c.args.t.0) r c.args.journal.now.events (ap counted_by (sym c.peek_head.ensures) ∙ sym c.counted_refusal-first.ensures.refusal) armed u r' _
    (goes r armed u r' ds more))

pub returns-clause-fails : goal.returns-clause-fails
returns-clause-fails g c =
    err-along c.make_move.result c.make_move.ensures.entered.halts c.make_move.ensures.entered.refused (λ halts refused r ds.
    c.in_default.ensures.checked (counted_refusal c.args.t.0) r c.args.journal.now.events (ap counted_by (sym c.peek_head.ensures) ∙ sym c.counted_refusal-first.ensures.refusal) (armed_in (g.P.Plant.state c.args.plant.now)) (world_seen (g.P.Plant.state c.make_move.new.plant) c.args.config.now r c.make_move.new.journal.events) (refusal_of c.make_move.result) _
    (halts r ds))

pub returns-clause-carried : goal.returns-clause-carried
returns-clause-carried g c =
    ends-by c.make_move.result (armed_in (g.P.Plant.state c.args.plant.now)) (λ r. (world_seen (g.P.Plant.state c.args.plant.now) c.args.config.now r c.args.journal.now.events)) (λ r. (world_seen (g.P.Plant.state c.make_move.new.plant) c.args.config.now r c.make_move.new.journal.events)) (λ r. resync_entries (world_seen (g.P.Plant.state c.args.plant.now) c.args.config.now r c.args.journal.now.events).control c.args.s.0 c.args.t.0 c.args.sequence) (returns-clause-leads g c) (returns-clause-fails g c)

pub returns-clause-refused : goal.returns-clause-refused
returns-clause-refused g c =
    stop-refused c.make_move.result _ _ c.make_move.ensures.entered.refused (target-of (g.P.Plant.state c.args.plant.now) c.args.config.now c.args.s.0 c.args.t.0 c.requires.fit c.in_default.ensures.related).server

pub returns-clause-faults : goal.returns-clause-faults
returns-clause-faults g c = counted-stop c.make_move.result _ _ _ c.make_move.ensures.kept.faults c.make_move.ensures.entered.refused

pub returns-clause-unchanged : goal.returns-clause-unchanged
returns-clause-unchanged g c calm = only-stops _ c.make_move.result _ c.make_move.ensures.entered.refused calm

pub returns-clause-same : goal.returns-clause-same
returns-clause-same g c =
    let s = g.P.Plant.state c.args.plant.now in
    let t = c.args.config.now in
    let to = target-of s t c.args.s.0 c.args.t.0 c.requires.fit c.in_default.ensures.related in
    ok-along c.make_move.result c.make_move.ensures.moved (λ is holds k.
    copy-shown s (g.P.Plant.state c.make_move.new.plant) t c.args.s.0 c.args.t.0 c.args.sequence c.requires.fit to is c.make_move.ensures.others (holds to.related c.in_default.ensures.recorded c.in_default.ensures.forward) k)
