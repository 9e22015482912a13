use Rattle.std.proofs.Common.{arith}
use Rattle.dr_model.specs.declared.event.Event.TheVariants.{Suspended}
use Rattle.dr_model.specs.Moves.{Suspend}
use Rattle.dr_model.specs.Pairs.{is_suspended}
use Rattle.dr_volume.specs.View.{volume_seen}
use Rattle.dr_moves.proofs.StopRows.{room-few}
use Rattle.dr_moves.proofs.TurnLemmas.{ok-along}
use Rattle.dr_gcopy.proofs.SendMoves.{few-if}
use Rattle.dr_gcopy.proofs.suspending.suspend.Goals as goal

pub make_move-requires-clause-room : goal.make_move-requires-clause-room
make_move-requires-clause-room g c =
    let x = volume_seen (g.P.Plant.state c.args.plant.now) c.args.config.now c.args.a.0 in
    let few = few-if (is_suspended x.fields.primary_state) (Suspended c.args.a.0) in
    let h = c.requires.room in
    room-few (Suspend c.args.a.0 c.args.busy) x c.args.journal.now.spare (omega (arith, few, h))

pub returns-clause-room : goal.returns-clause-room
returns-clause-room g c =
    let x = volume_seen (g.P.Plant.state c.args.plant.now) c.args.config.now c.args.a.0 in
    let few = few-if (is_suspended x.fields.primary_state) (Suspended c.args.a.0) in
    let most = room-few (Suspend c.args.a.0 c.args.busy) x 2 (omega (arith, few)) in
    let h = c.make_move.ensures.kept.room in
    omega (arith, most, h)

pub returns-clause-room_left : goal.returns-clause-room_left
returns-clause-room_left g c =
    let x = volume_seen (g.P.Plant.state c.args.plant.now) c.args.config.now c.args.a.0 in
    let few = few-if (is_suspended x.fields.primary_state) (Suspended c.args.a.0) in
    ok-along c.make_move.result c.make_move.ensures.room_left (λ is. omega (arith, few, is))
