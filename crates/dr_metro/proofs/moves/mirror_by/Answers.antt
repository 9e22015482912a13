use Rattle.std.proofs.Common.{ℕ, ◌≢◌, List, arith, ap, refl, sym, Some}
use Rattle.dr_model.specs.Carry.{now}
use Rattle.dr_model.specs.Moves.{Mirror}
use Rattle.dr_volume.specs.View.{volume_seen}
use Rattle.dr_moves.specs.Checks.{is_stop}
use Rattle.dr_moves.proofs.TurnLemmas.{ok-along, err-along}
use Rattle.dr_gcopy.proofs.RanLemmas.{ran-made, stays-by}
use Rattle.dr_metro.proofs.moves.mirror_by.Goals as goal

pub make_move_by-requires-clause-carries : goal.make_move_by-requires-clause-carries
make_move_by-requires-clause-carries g c = ap (λ (b : List ℕ). Some (c.args.m.track, b)) (sym c.requires.bytes)

pub returns-clause-ran : goal.returns-clause-ran
returns-clause-ran g c =
    let s = g.P.Plant.state c.args.plant.now in
    let x = g.P.Plant.state c.make_move_by.new.plant in
    let t = c.args.config.now in
    let u = c.args.m.to.0 in
    let m = Mirror u c.args.m.track c.args.m.from.0 c.args.m.write.0 in
    let e = c.make_move_by.ensures.entered in
    let k = c.make_move_by.ensures.kept in
    ran-made s x t c.args.journal.now c.make_move_by.new.journal m (now m) (λ q. q ≢ u) 2 1 c.make_move_by.result (λ r. refl) e.advances e.halts
    (stays-by s x t c.args.journal.now c.make_move_by.new.journal (λ q. q ≢ u) 2 1 (volume_seen s t u).server c.make_move_by.result e.refused k.at.rest k.at.fit k.unarmed k.faults c.make_move_by.ensures.others k.on k.room
    (ok-along c.make_move_by.result c.make_move_by.ensures.room_left (λ is. omega (arith, is))) k.spare)

pub returns-clause-stops : goal.returns-clause-stops
returns-clause-stops g c = err-along c.make_move_by.result c.make_move_by.ensures.entered.refused c.make_move_by.ensures.entered.refused (λ refused _. ap is_stop refused)
