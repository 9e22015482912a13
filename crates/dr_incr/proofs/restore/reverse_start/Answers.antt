use Rattle.std.proofs.Common.{◌+◌, arith, ap, ◌∙◌, Some, sym, subst}
use Rattle.dr_model.specs.Carry.{now}
use Rattle.dr_model.specs.Moves.{Reverse}
use Rattle.dr_model.specs.Plans.{restore_refusal}
use Rattle.dr_moves.specs.Turns.{Advances, Halts}
use Rattle.dr_moves.specs.Here.{world_seen, armed_in, refusal_of}
use Rattle.dr_moves.proofs.EntryLemmas.{counted-stop, only-stops}
use Rattle.dr_moves.proofs.TurnLemmas.{ok-along, err-along}
use Rattle.dr_incr.specs.Steps.{IsAsked, reverse_entries, volume_number}
use Rattle.dr_incr.proofs.RestoreLemmas.{changes-apart, reverse-few}
use Rattle.dr_moves.proofs.StopRows.{room-few}
use Rattle.dr_volume.specs.View.{volume_seen}
use Rattle.dr_incr.proofs.StepLemmas.{ends-if, stop-refused}
use Rattle.dr_incr.proofs.TargetLemmas.{target-of}
use Rattle.dr_incr.proofs.BackLaws.{turn-restores}
use Rattle.dr_incr.proofs.restore.reverse_start.Goals as goal

pub returns-in-Some-clause-carried : goal.returns-in-Some-clause-carried
returns-in-Some-clause-carried g c r asked = c.in-Some.ensures.checked (restore_refusal c.args.t.0) r c.args.journal.now.events asked.why (armed_in (g.P.Plant.state c.args.plant.now)) _

pub returns-in-Some-clause-fails : goal.returns-in-Some-clause-fails
returns-in-Some-clause-fails g c r asked ds = c.in-Some.ensures.checked (restore_refusal c.args.t.0) r c.args.journal.now.events asked.why (armed_in (g.P.Plant.state c.args.plant.now)) _

pub returns-in-Some-lone_refusal-clause-carried : goal.returns-in-Some-lone_refusal-clause-carried
returns-in-Some-lone_refusal-clause-carried g c r asked =
    c.in_default.ensures.checked (restore_refusal c.args.t.0) r c.args.journal.now.events asked.why (armed_in (g.P.Plant.state c.args.plant.now)) (world_seen (g.P.Plant.state c.args.plant.now) c.args.config.now r c.args.journal.now.events) (Some c.in-Some-lone_refusal.why) _
    (c.in-Some-lone_refusal.ensures.checked r c.args.journal.now.events (armed_in (g.P.Plant.state c.args.plant.now)) _)

pub returns-in-Some-lone_refusal-clause-fails : goal.returns-in-Some-lone_refusal-clause-fails
returns-in-Some-lone_refusal-clause-fails g c r asked ds =
    c.in_default.ensures.checked (restore_refusal c.args.t.0) r c.args.journal.now.events asked.why (armed_in (g.P.Plant.state c.args.plant.now)) (world_seen (g.P.Plant.state c.args.plant.now) c.args.config.now r c.args.journal.now.events) (Some c.in-Some-lone_refusal.why) _
    (c.in-Some-lone_refusal.ensures.checked r c.args.journal.now.events (armed_in (g.P.Plant.state c.args.plant.now)) _)

pub make_move-requires-clause-may : goal.make_move-requires-clause-may
make_move-requires-clause-may g c =
    let s = g.P.Plant.state c.args.plant.now in
    let to = target-of s c.args.config.now c.args.s.0 c.args.t.0 c.requires.fit c.in_default.ensures.related in
    record { defined = c.requires.target; running = ap s.on to.server ∙ c.in_default.ensures.running; asks = (to.related, changes-apart s c.args.config.now c.args.t.0 c.requires.fit c.in_default.ensures.not_revertible c.requires.sets) }

pub make_move-requires-clause-room : goal.make_move-requires-clause-room
make_move-requires-clause-room g c =
    let x = volume_seen (g.P.Plant.state c.args.plant.now) c.args.config.now c.args.t.0 in
    let few = reverse-few c.args.t.0 (volume_number c.args.left) x in
    let h = c.requires.room in
    room-few (Reverse c.args.t.0 (volume_number c.args.left)) x c.args.journal.now.spare (omega (arith, few, h))

pub returns-clause-room : goal.returns-clause-room
returns-clause-room g c =
    let x = volume_seen (g.P.Plant.state c.args.plant.now) c.args.config.now c.args.t.0 in
    let few = reverse-few c.args.t.0 (volume_number c.args.left) x in
    let most = room-few (Reverse c.args.t.0 (volume_number c.args.left)) x (x.tracks + 3) (omega (arith, few)) in
    let h = c.make_move.ensures.kept.room in
    omega (arith, most, h)

pub returns-clause-room_left : goal.returns-clause-room_left
returns-clause-room_left g c =
    let few = reverse-few c.args.t.0 (volume_number c.args.left) (volume_seen (g.P.Plant.state c.args.plant.now) c.args.config.now c.args.t.0) in
    ok-along c.make_move.result c.make_move.ensures.room_left (λ is. omega (arith, few, is))

pub returns-clause-leads : goal.returns-clause-leads
returns-clause-leads g c =
    ok-along c.make_move.result c.make_move.ensures.entered.advances (λ goes r asked armed u r' ds more.
    c.in_default.ensures.checked (restore_refusal c.args.t.0) r c.args.journal.now.events asked.why armed u r' _
    (c.in_default-lone_refusal.ensures.checked r c.args.journal.now.events armed u r' _
    (subst (λ o. Advances (world_seen (g.P.Plant.state c.args.plant.now) c.args.config.now r c.args.journal.now.events) (now (Reverse c.args.t.0 o)) (world_seen (g.P.Plant.state c.make_move.new.plant) c.args.config.now r c.make_move.new.journal.events)) (sym asked.leaves) (goes r) armed u r' ds more)))

pub returns-clause-fails : goal.returns-clause-fails
returns-clause-fails g c =
    err-along c.make_move.result c.make_move.ensures.entered.halts c.make_move.ensures.entered.refused (λ halts refused r asked ds.
    c.in_default.ensures.checked (restore_refusal c.args.t.0) r c.args.journal.now.events asked.why (armed_in (g.P.Plant.state c.args.plant.now)) (world_seen (g.P.Plant.state c.make_move.new.plant) c.args.config.now r c.make_move.new.journal.events) (refusal_of c.make_move.result) _
    (c.in_default-lone_refusal.ensures.checked r c.args.journal.now.events (armed_in (g.P.Plant.state c.args.plant.now)) (world_seen (g.P.Plant.state c.make_move.new.plant) c.args.config.now r c.make_move.new.journal.events) (refusal_of c.make_move.result) _
    (subst (λ o. Halts (armed_in (g.P.Plant.state c.args.plant.now)) (world_seen (g.P.Plant.state c.args.plant.now) c.args.config.now r c.args.journal.now.events) (now (Reverse c.args.t.0 o)) (world_seen (g.P.Plant.state c.make_move.new.plant) c.args.config.now r c.make_move.new.journal.events) (refusal_of c.make_move.result)) (sym asked.leaves) (halts r) ds)))

pub returns-clause-carried : goal.returns-clause-carried
returns-clause-carried g c =
    ends-if c.make_move.result (armed_in (g.P.Plant.state c.args.plant.now)) (λ r. IsAsked (world_seen (g.P.Plant.state c.args.plant.now) c.args.config.now r c.args.journal.now.events).control c.args.t.0 c.args.unsettled c.args.left) (λ r. (world_seen (g.P.Plant.state c.args.plant.now) c.args.config.now r c.args.journal.now.events)) (λ r. (world_seen (g.P.Plant.state c.make_move.new.plant) c.args.config.now r c.make_move.new.journal.events)) (λ r. reverse_entries (world_seen (g.P.Plant.state c.args.plant.now) c.args.config.now r c.args.journal.now.events).control c.args.s.0 c.args.t.0) (returns-clause-leads g c) (returns-clause-fails g c)

pub returns-clause-refused : goal.returns-clause-refused
returns-clause-refused g c =
    stop-refused c.make_move.result _ _ c.make_move.ensures.entered.refused (target-of (g.P.Plant.state c.args.plant.now) c.args.config.now c.args.s.0 c.args.t.0 c.requires.fit c.in_default.ensures.related).server

pub returns-clause-faults : goal.returns-clause-faults
returns-clause-faults g c = counted-stop c.make_move.result _ _ _ c.make_move.ensures.kept.faults c.make_move.ensures.entered.refused

pub returns-clause-unchanged : goal.returns-clause-unchanged
returns-clause-unchanged g c calm = only-stops _ c.make_move.result _ c.make_move.ensures.entered.refused calm

pub returns-clause-restores : goal.returns-clause-restores
returns-clause-restores g c =
    let x = g.P.Plant.state c.args.plant.now in
    let t = c.args.config.now in
    let to = target-of x t c.args.s.0 c.args.t.0 c.requires.fit c.in_default.ensures.related in
    ok-along c.make_move.result c.make_move.ensures.moved (λ is holds.
    turn-restores x (g.P.Plant.state c.make_move.new.plant) t c.args.s.0 c.args.t.0 to c.requires.fit c.requires.sets c.in_default.ensures.not_revertible c.make_move.ensures.others c.in_default.ensures.recorded c.in_default.ensures.forward holds is)
