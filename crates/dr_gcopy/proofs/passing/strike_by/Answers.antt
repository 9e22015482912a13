use Rattle.std.proofs.Common.{◌≢◌, arith, ap, sym}
use Rattle.dr_model.specs.Carry.{Do, Make}
use Rattle.dr_model.specs.Moves.{Strike}
use Rattle.dr_model.specs.PairEntries.{strike_on}
use Rattle.dr_volume.specs.View.{volume_seen}
use Rattle.dr_moves.specs.Checks.{is_stop}
use Rattle.dr_moves.proofs.TurnLemmas.{ok-along, err-along}
use Rattle.dr_gcopy.proofs.RanLemmas.{ran-made, stays-by}
use Rattle.dr_gcopy.proofs.passing.strike_by.Goals as goal

pub returns-clause-ran : goal.returns-clause-ran
returns-clause-ran g c =
    let s = g.P.Plant.state c.args.plant.now in
    let u = g.P.Plant.state c.make_move_by.new.plant in
    let t = c.args.config.now in
    let h = c.make_move_by.ensures in
    let k = h.kept in
    ran-made s u t c.args.journal.now c.make_move_by.new.journal (Strike c.args.a.0 c.args.t c.args.last) (strike_on c.args.a.0 c.args.t) (λ q. q ≢ c.args.a.0) 1 0 c.make_move_by.result (λ r. ap (λ l. Do (Make (Strike c.args.a.0 c.args.t l))) (sym c.requires.last)) h.entered.advances h.entered.halts
    (stays-by s u t c.args.journal.now c.make_move_by.new.journal (λ q. q ≢ c.args.a.0) 1 0 (volume_seen s t c.args.a.0).server c.make_move_by.result h.entered.refused k.at.rest k.at.fit k.unarmed k.faults h.others k.on k.room
    (ok-along c.make_move_by.result h.room_left (λ is. omega (arith, is))) k.spare)

pub returns-clause-stops : goal.returns-clause-stops
returns-clause-stops g c = err-along c.make_move_by.result c.make_move_by.ensures.entered.refused c.make_move_by.ensures.entered.refused (λ refused _. ap is_stop refused)
