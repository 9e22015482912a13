use Rattle.std.proofs.Common.{◌≢◌, arith, ap, refl}
use Rattle.dr_model.specs.Carry.{now}
use Rattle.dr_model.specs.Moves.{Unsync}
use Rattle.dr_volume.specs.View.{volume_seen}
use Rattle.dr_moves.specs.Checks.{is_stop}
use Rattle.dr_moves.proofs.TurnLemmas.{ok-along, err-along}
use Rattle.dr_gcopy.proofs.RanLemmas.{ran-made, stays-by}
use Rattle.dr_metro.proofs.moves.unsync_by.Goals as goal

pub returns-clause-ran : goal.returns-clause-ran
returns-clause-ran g c =
    let s = g.P.Plant.state c.args.plant.now in
    let u = g.P.Plant.state c.make_move_by.new.plant in
    let t = c.args.config.now in
    let v = c.args.v.0 in
    let m = Unsync v c.args.t in
    let e = c.make_move_by.ensures.entered in
    let k = c.make_move_by.ensures.kept in
    ran-made s u t c.args.journal.now c.make_move_by.new.journal m (now m) (λ q. q ≢ v) 1 0 c.make_move_by.result (λ r. refl) e.advances e.halts
    (stays-by s u t c.args.journal.now c.make_move_by.new.journal (λ q. q ≢ v) 1 0 (volume_seen s t v).server c.make_move_by.result e.refused k.at.rest k.at.fit k.unarmed k.faults c.make_move_by.ensures.others k.on k.room
    (ok-along c.make_move_by.result c.make_move_by.ensures.room_left (λ is. omega (arith, is))) k.spare)

pub returns-clause-stops : goal.returns-clause-stops
returns-clause-stops g c = err-along c.make_move_by.result c.make_move_by.ensures.entered.refused c.make_move_by.ensures.entered.refused (λ refused _. ap is_stop refused)
