use Rattle.std.proofs.Common.{ap, sym, ◌∙◌, Some, not, ◌&&◌, arith}
use Rattle.std.proofs.lemmas.Bool.{and_parts}
use Rattle.dr_ids.specs.declared.refusal.Refusal.{Refusal}
use Rattle.dr_model.specs.Entries.{is_running, relation_state}
use Rattle.dr_model.specs.Plans.{counted_refusal, is_plain_target}
use Rattle.dr_model.specs.Refusals.{server_off}
use Rattle.dr_volume.specs.declared.head.Head.{Head}
use Rattle.dr_volume.specs.View.{on_seen, volume_seen}
use Rattle.dr_moves.specs.Here.{world_seen, armed_in, refusal_of}
use Rattle.dr_flash.specs.Heads.{targets_by}
use Rattle.dr_flash.specs.Standing.{counted_by}
use Rattle.dr_facts.proofs.Ends.{ends-passed}
use Rattle.dr_moves.proofs.EntryLemmas.{refuses, ends-clear, ends-why, only-stops}
use Rattle.dr_moves.proofs.TellLemmas.{room-blanked}
use Rattle.dr_moves.proofs.TurnLemmas.{ok-along}
use Rattle.dr_flash.proofs.ShowLemmas.{show-target, withdrawn-shows}
use Rattle.dr_flash.proofs.ending.withdraw.Goals as goal
use Rattle.dr_volume.proofs.WorldLaws.{on-seen}

pub returns-then-not-is_on-clause-carried : goal.returns-then-not-is_on-clause-carried
returns-then-not-is_on-clause-carried g c r =
    let s = g.P.Plant.state c.args.plant.now in
    let t = c.args.config.now in
    let w = world_seen s t r c.args.journal.now.events in
    let a = c.args.s.0 in
    let server = c.server_of-server in
    refuses (armed_in s) w (is_running a) (server_off (volume_seen s t a).server) _ _ (ap (on_seen s) (server.ensures.seen s) ∙ on-seen s server.result.0 server.ensures.known ∙ sym c.is_on.ensures ∙ c.if-not-is_on.true) (ap (λ n. Some (server_off n)) (sym (server.ensures.seen s)))

pub returns-in-Some-clause-carried : goal.returns-in-Some-clause-carried
returns-in-Some-clause-carried g c r =
    let s = g.P.Plant.state c.args.plant.now in
    let t = c.args.config.now in
    let w = world_seen s t r c.args.journal.now.events in
    let a = c.args.s.0 in
    let server = c.server_of-server in
    let on = ap (on_seen s) (server.ensures.seen s) ∙ on-seen s server.result.0 server.ensures.known ∙ sym c.is_on.ensures ∙ c.if-not-is_on.false in
    ends-passed (armed_in s) w (Some c.in-Some.why) w (is_running a) (server_off (volume_seen s t a).server) _ on
    (ends-why (armed_in s) w (counted_refusal c.args.t.0) c.in-Some.why _ (ap counted_by (sym c.peek_head-head.ensures) ∙ sym c.in-Some.ensures.refusal))

pub returns-then-not-is_plain_target-clause-carried : goal.returns-then-not-is_plain_target-clause-carried
returns-then-not-is_plain_target-clause-carried g c r =
    let s = g.P.Plant.state c.args.plant.now in
    let t = c.args.config.now in
    let w = world_seen s t r c.args.journal.now.events in
    let a = c.args.s.0 in
    let server = c.server_of-server in
    let on = ap (on_seen s) (server.ensures.seen s) ∙ on-seen s server.result.0 server.ensures.known ∙ sym c.is_on.ensures ∙ c.if-not-is_on.false in
    ends-passed (armed_in s) w (Some c.relation_state.result) w (is_running a) (server_off (volume_seen s t a).server) _ on
    (ends-clear (armed_in s) w (Some c.relation_state.result) w (counted_refusal c.args.t.0) _ (ap counted_by (sym c.peek_head-head.ensures) ∙ sym c.in_default.ensures.refusal)
    (refuses (armed_in s) w (is_plain_target a c.args.t.0) (relation_state w.control c.args.t.0) _ _ (ap (λ (h : Head). targets_by a h && (not h.revertible && not h.reversing)) (sym c.peek_head-head.ensures) ∙ sym c.is_plain_target.ensures ∙ c.if-not-is_plain_target.true) (ap (λ (x : Refusal). Some x) (c.relation_state.ensures.refusal r c.args.journal.now.events))))

pub returns-clause-carried : goal.returns-clause-carried
returns-clause-carried g c r =
    let s = g.P.Plant.state c.args.plant.now in
    let t = c.args.config.now in
    let w = world_seen s t r c.args.journal.now.events in
    let a = c.args.s.0 in
    let server = c.server_of-server in
    let on = ap (on_seen s) (server.ensures.seen s) ∙ on-seen s server.result.0 server.ensures.known ∙ sym c.is_on.ensures ∙ c.if-not-is_on.false in
    let u = world_seen (g.P.Plant.state c.make_move.new.plant) t r c.make_move.new.journal.events in
    ends-passed (armed_in s) u (refusal_of c.make_move.result) w (is_running a) (server_off (volume_seen s t a).server) _ on
    (ends-clear (armed_in s) u (refusal_of c.make_move.result) w (counted_refusal c.args.t.0) _ (ap counted_by (sym c.peek_head-head.ensures) ∙ sym c.in_default.ensures.refusal)
    (ends-passed (armed_in s) u (refusal_of c.make_move.result) w (is_plain_target a c.args.t.0) (relation_state w.control c.args.t.0) _ (ap (λ (h : Head). targets_by a h && (not h.revertible && not h.reversing)) (sym c.peek_head-head.ensures) ∙ sym c.is_plain_target.ensures ∙ c.if-not-is_plain_target.false)
    (c.make_move.ensures.entered.carried r)))

pub returns-clause-unchanged : goal.returns-clause-unchanged
returns-clause-unchanged g c calm = only-stops _ c.make_move.result _ c.make_move.ensures.entered.refused calm

pub make_move-requires-clause-room : goal.make_move-requires-clause-room
make_move-requires-clause-room g c =
    let x = volume_seen (g.P.Plant.state c.args.plant.now) c.args.config.now c.args.t.0 in
    let told = room-blanked c.args.t.0 x.tracks x.fields.own in
    let few = c.requires.rest.sizes c.args.t.0 in
    let room = c.requires.room in
    omega (arith, told, few, room)

pub returns-clause-room : goal.returns-clause-room
returns-clause-room g c =
    let x = volume_seen (g.P.Plant.state c.args.plant.now) c.args.config.now c.args.t.0 in
    let told = room-blanked c.args.t.0 x.tracks x.fields.own in
    let few = c.requires.rest.sizes c.args.t.0 in
    let room = c.make_move.ensures.kept.room in
    omega (arith, told, few, room)

pub returns-clause-shows : goal.returns-clause-shows
returns-clause-shows g c = ok-along c.make_move.result c.make_move.ensures.moved (withdrawn-shows (g.P.Plant.state c.args.plant.now) (g.P.Plant.state c.make_move.new.plant) c.args.config.now c.args.t.0)

pub returns-clause-others_show : goal.returns-clause-others_show
returns-clause-others_show g c =
    let copies = (and_parts _ _ (sym c.is_plain_target.ensures ∙ c.if-not-is_plain_target.false)).0 in
    show-target (g.P.Plant.state c.args.plant.now) (g.P.Plant.state c.make_move.new.plant) c.args.config.now c.args.t.0 c.make_move.ensures.others c.requires.fit (sym (ap (λ (h : Head). h.related) c.peek_head-head.ensures) ∙ (and_parts _ _ copies).0)
