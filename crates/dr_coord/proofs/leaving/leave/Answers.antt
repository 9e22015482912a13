use Rattle.std.proofs.Common.{refl}
use Rattle.dr_model.specs.Carry.{now}
use Rattle.dr_model.specs.Moves.{Leave}
use Rattle.dr_volume.specs.View.{volume_seen}
use Rattle.dr_moves.specs.Here.{world_seen, armed_in, refusal_of}
use Rattle.dr_moves.proofs.EntryLemmas.{act-ends, move-advances, move-halts}
use Rattle.dr_moves.proofs.TurnLemmas.{ok-along, err-along}
use Rattle.dr_coord.proofs.leaving.leave.Goals as goal

pub returns-clause-advances : goal.returns-clause-advances
returns-clause-advances g c =
    let s = g.P.Plant.state c.args.plant.now in
    let t = c.args.config.now in
    ok-along c.make_move.result c.make_move.ensures.entered.done (λ done r.
    move-advances (world_seen s t r c.args.journal.now.events) (world_seen (g.P.Plant.state c.make_move.new.plant) t r c.make_move.new.journal.events) (now (Leave c.args.v.0 c.args.a.0 c.args.s.0)) (Leave c.args.v.0 c.args.a.0 c.args.s.0) refl (done r))

pub returns-clause-halts : goal.returns-clause-halts
returns-clause-halts g c =
    let s = g.P.Plant.state c.args.plant.now in
    let t = c.args.config.now in
    err-along c.make_move.result c.make_move.ensures.entered.failed c.make_move.ensures.entered.refused (λ failed refused r.
    move-halts (armed_in s) (world_seen s t r c.args.journal.now.events) (world_seen (g.P.Plant.state c.make_move.new.plant) t r c.make_move.new.journal.events) (refusal_of c.make_move.result) (now (Leave c.args.v.0 c.args.a.0 c.args.s.0)) (Leave c.args.v.0 c.args.a.0 c.args.s.0) (volume_seen s t c.args.v.0).server refl refused (failed r))

pub returns-clause-carried : goal.returns-clause-carried
returns-clause-carried g c r =
    let s = g.P.Plant.state c.args.plant.now in
    let t = c.args.config.now in
    act-ends c.make_move.result (armed_in s) (λ r. world_seen s t r c.args.journal.now.events) (λ r. world_seen (g.P.Plant.state c.make_move.new.plant) t r c.make_move.new.journal.events) (now (Leave c.args.v.0 c.args.a.0 c.args.s.0)) (returns-clause-advances g c) (returns-clause-halts g c) r
