use Rattle.std.proofs.Common.{arith, ap, sym, ◌∙◌, ◌||◌}
use Rattle.dr_model.specs.Moves.{Finish}
use Rattle.dr_coord.specs.Changes.{void_on}
use Rattle.dr_volume.specs.declared.head.Head.{Head}
use Rattle.dr_volume.specs.View.{volume_seen}
use Rattle.dr_moves.specs.Here.{world_seen, armed_in, refusal_of}
use Rattle.dr_moves.proofs.EntryLemmas.{act-ends, move-advances, move-halts, skips}
use Rattle.dr_moves.proofs.TurnLemmas.{ok-along, err-along}
use Rattle.dr_coord.proofs.ActLemmas.{void-skips, void-comes}
use Rattle.dr_coord.proofs.HoldLemmas.{one-skipped}
use Rattle.dr_coord.proofs.finishing.void.Goals as goal

pub returns-then-not-is_engaged-clause-advances : goal.returns-then-not-is_engaged-clause-advances
returns-then-not-is_engaged-clause-advances g c r =
    skips (world_seen (g.P.Plant.state c.args.plant.now) c.args.config.now r c.args.journal.now.events) (void_on c.args.v.0)
    (void-skips (g.P.Plant.state c.args.plant.now) c.args.config.now r c.args.journal.now.events c.args.v.0 (ap (λ (f : Head). f.recording || f.coordination) (sym c.peek_head.ensures) ∙ sym c.if-not-is_engaged.ensures))

pub returns-then-not-is_engaged-clause-carried : goal.returns-then-not-is_engaged-clause-carried
returns-then-not-is_engaged-clause-carried g c r =
    one-skipped (armed_in (g.P.Plant.state c.args.plant.now)) (world_seen (g.P.Plant.state c.args.plant.now) c.args.config.now r c.args.journal.now.events) (void_on c.args.v.0) (returns-then-not-is_engaged-clause-advances g c r)

pub returns-clause-advances : goal.returns-clause-advances
returns-clause-advances g c =
    let s = g.P.Plant.state c.args.plant.now in
    let t = c.args.config.now in
    ok-along c.make_move.result c.make_move.ensures.entered.done (λ done r.
    move-advances (world_seen s t r c.args.journal.now.events) (world_seen (g.P.Plant.state c.make_move.new.plant) t r c.make_move.new.journal.events) (void_on c.args.v.0) (Finish c.args.v.0 0)
    (void-comes s t r c.args.journal.now.events c.args.v.0 (ap (λ (f : Head). f.recording || f.coordination) (sym c.peek_head.ensures) ∙ sym c.if-not-is_engaged.ensures)) (done r))

pub returns-clause-halts : goal.returns-clause-halts
returns-clause-halts g c =
    let s = g.P.Plant.state c.args.plant.now in
    let t = c.args.config.now in
    err-along c.make_move.result c.make_move.ensures.entered.failed c.make_move.ensures.entered.refused (λ failed refused r.
    move-halts (armed_in s) (world_seen s t r c.args.journal.now.events) (world_seen (g.P.Plant.state c.make_move.new.plant) t r c.make_move.new.journal.events) (refusal_of c.make_move.result) (void_on c.args.v.0) (Finish c.args.v.0 0) (volume_seen s t c.args.v.0).server
    (void-comes s t r c.args.journal.now.events c.args.v.0 (ap (λ (f : Head). f.recording || f.coordination) (sym c.peek_head.ensures) ∙ sym c.if-not-is_engaged.ensures)) refused (failed r))

pub returns-clause-carried : goal.returns-clause-carried
returns-clause-carried g c =
    let s = g.P.Plant.state c.args.plant.now in
    let t = c.args.config.now in
    act-ends c.make_move.result (armed_in s) (λ r. world_seen s t r c.args.journal.now.events) (λ r. world_seen (g.P.Plant.state c.make_move.new.plant) t r c.make_move.new.journal.events) (void_on c.args.v.0) (returns-clause-advances g c) (returns-clause-halts g c)

pub returns-clause-room_left : goal.returns-clause-room_left
returns-clause-room_left g c =
    ok-along c.make_move.result c.make_move.ensures.room_left (λ is. omega (arith, is))
