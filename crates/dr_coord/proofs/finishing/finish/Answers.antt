use Rattle.std.proofs.Common.{arith, ap, sym, ◌∙◌, ◌&&◌, ◌||◌, not, nat_eq, nat_lt}
use Rattle.dr_model.specs.Moves.{Finish}
use Rattle.dr_model.specs.SessionEntries.{finish_on}
use Rattle.dr_volume.specs.declared.head.Head.{Head}
use Rattle.dr_volume.specs.View.{volume_seen}
use Rattle.dr_moves.specs.Here.{world_seen, armed_in, refusal_of}
use Rattle.dr_moves.proofs.EntryLemmas.{act-ends, move-advances, move-halts, skips}
use Rattle.dr_moves.proofs.TurnLemmas.{ok-along, err-along}
use Rattle.dr_coord.proofs.ActLemmas.{finish-skips, finish-comes}
use Rattle.dr_coord.proofs.HoldLemmas.{one-skipped}
use Rattle.dr_coord.proofs.finishing.finish.Goals as goal

pub returns-then-is_past-clause-advances : goal.returns-then-is_past-clause-advances
returns-then-is_past-clause-advances g c r =
    skips (world_seen (g.P.Plant.state c.args.plant.now) c.args.config.now r c.args.journal.now.events) (finish_on c.args.m.now.a.0 c.args.n)
    (finish-skips (g.P.Plant.state c.args.plant.now) c.args.config.now r c.args.journal.now.events c.args.m.now.a.0 c.args.n (ap (λ (f : Head). nat_lt c.args.n f.attempt || (nat_eq f.attempt c.args.n && not f.recording)) (sym c.peek_head.ensures) ∙ sym c.if-is_past.ensures))

pub returns-then-is_past-clause-carried : goal.returns-then-is_past-clause-carried
returns-then-is_past-clause-carried g c r =
    one-skipped (armed_in (g.P.Plant.state c.args.plant.now)) (world_seen (g.P.Plant.state c.args.plant.now) c.args.config.now r c.args.journal.now.events) (finish_on c.args.m.now.a.0 c.args.n) (returns-then-is_past-clause-advances g c r)

pub returns-clause-advances : goal.returns-clause-advances
returns-clause-advances g c =
    let s = g.P.Plant.state c.args.plant.now in
    let t = c.args.config.now in
    ok-along c.make_move.result c.make_move.ensures.entered.done (λ done r.
    move-advances (world_seen s t r c.args.journal.now.events) (world_seen (g.P.Plant.state c.make_move.new.plant) t r c.make_move.new.journal.events) (finish_on c.args.m.now.a.0 c.args.n) (Finish c.args.m.now.a.0 c.args.n)
    (finish-comes s t r c.args.journal.now.events c.args.m.now.a.0 c.args.n (ap (λ (f : Head). nat_lt c.args.n f.attempt || (nat_eq f.attempt c.args.n && not f.recording)) (sym c.peek_head.ensures) ∙ sym c.if-is_past.ensures)) (done r))

pub returns-clause-halts : goal.returns-clause-halts
returns-clause-halts g c =
    let s = g.P.Plant.state c.args.plant.now in
    let t = c.args.config.now in
    err-along c.make_move.result c.make_move.ensures.entered.failed c.make_move.ensures.entered.refused (λ failed refused r.
    move-halts (armed_in s) (world_seen s t r c.args.journal.now.events) (world_seen (g.P.Plant.state c.make_move.new.plant) t r c.make_move.new.journal.events) (refusal_of c.make_move.result) (finish_on c.args.m.now.a.0 c.args.n) (Finish c.args.m.now.a.0 c.args.n) (volume_seen s t c.args.m.now.a.0).server
    (finish-comes s t r c.args.journal.now.events c.args.m.now.a.0 c.args.n (ap (λ (f : Head). nat_lt c.args.n f.attempt || (nat_eq f.attempt c.args.n && not f.recording)) (sym c.peek_head.ensures) ∙ sym c.if-is_past.ensures)) refused (failed r))

pub returns-clause-carried : goal.returns-clause-carried
returns-clause-carried g c =
    let s = g.P.Plant.state c.args.plant.now in
    let t = c.args.config.now in
    act-ends c.make_move.result (armed_in s) (λ r. world_seen s t r c.args.journal.now.events) (λ r. world_seen (g.P.Plant.state c.make_move.new.plant) t r c.make_move.new.journal.events) (finish_on c.args.m.now.a.0 c.args.n) (returns-clause-advances g c) (returns-clause-halts g c)

pub returns-clause-room_left : goal.returns-clause-room_left
returns-clause-room_left g c =
    ok-along c.make_move.result c.make_move.ensures.room_left (λ is. omega (arith, is))
