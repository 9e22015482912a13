use Rattle.std.proofs.Common.{arith, sym, ◌∙◌}
use Rattle.dr_model.specs.Moves.{Free}
use Rattle.dr_model.specs.SessionEntries.{free_on}
use Rattle.dr_volume.specs.View.{volume_seen}
use Rattle.dr_moves.specs.Here.{world_seen, armed_in, refusal_of}
use Rattle.dr_moves.proofs.TurnLemmas.{ok-along, err-along}
use Rattle.dr_moves.proofs.EntryLemmas.{move-advances, move-halts, skips}
use Rattle.dr_coord.proofs.ActLemmas.{free-skips, free-comes}
use Rattle.dr_coord.proofs.holding.free.Goals as goal

pub returns-then-not-held-clause-advances : goal.returns-then-not-held-clause-advances
returns-then-not-held-clause-advances g c r =
    skips (world_seen (g.P.Plant.state c.args.plant.now) c.args.config.now r c.args.journal.now.events) (free_on c.args.a.0)
    (free-skips (g.P.Plant.state c.args.plant.now) c.args.config.now r c.args.journal.now.events c.args.a.0 (sym c.requires.held ∙ c.if-not-held.true))

pub returns-clause-advances : goal.returns-clause-advances
returns-clause-advances g c =
    let s = g.P.Plant.state c.args.plant.now in
    let t = c.args.config.now in
    ok-along c.make_move.result c.make_move.ensures.entered.done (λ done r.
    move-advances (world_seen s t r c.args.journal.now.events) (world_seen (g.P.Plant.state c.make_move.new.plant) t r c.make_move.new.journal.events) (free_on c.args.a.0) (Free c.args.a.0)
    (free-comes s t r c.args.journal.now.events c.args.a.0 (sym c.requires.held ∙ c.if-not-held.false)) (done r))

pub returns-clause-halts : goal.returns-clause-halts
returns-clause-halts g c =
    let s = g.P.Plant.state c.args.plant.now in
    let t = c.args.config.now in
    err-along c.make_move.result c.make_move.ensures.entered.failed c.make_move.ensures.entered.refused (λ failed refused r.
    move-halts (armed_in s) (world_seen s t r c.args.journal.now.events) (world_seen (g.P.Plant.state c.make_move.new.plant) t r c.make_move.new.journal.events) (refusal_of c.make_move.result) (free_on c.args.a.0) (Free c.args.a.0) (volume_seen s t c.args.a.0).server
    (free-comes s t r c.args.journal.now.events c.args.a.0 (sym c.requires.held ∙ c.if-not-held.false)) refused (failed r))

pub returns-clause-room_left : goal.returns-clause-room_left
returns-clause-room_left g c =
    ok-along c.make_move.result c.make_move.ensures.room_left (λ is. omega (arith, is))
