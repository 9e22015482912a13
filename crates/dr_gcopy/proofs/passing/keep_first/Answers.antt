use Rattle.std.proofs.Common.{◌≡◌, ◌+◌, false, ap, length}
use Rattle.dr_model.specs.Entries.{copies_from}
use Rattle.dr_volume.specs.View.{volume_seen}
use Rattle.dr_moves.specs.Checks.{is_stop}
use Rattle.dr_moves.proofs.TurnLemmas.{err-along}
use Rattle.dr_gcopy.proofs.RanLemmas.{stays-by}
use Rattle.dr_gcopy.proofs.passing.keep_first.Goals as goal

pub returns-clause-ran : goal.returns-clause-ran
returns-clause-ran g c =
    let s = g.P.Plant.state c.args.plant.now in
    let t = c.args.config.now in
    let h = c.copy_first.ensures in
    record {
      leads = h.leads;
      fails = h.fails;
      stays = stays-by s (g.P.Plant.state c.copy_first.new.plant) t c.args.journal.now c.copy_first.new.journal (λ q. copies_from c.args.b.0 (volume_seen s t q).fields ≡ false) (length c.args.config.now.volumes + 1) (length c.args.config.now.volumes) (volume_seen s t c.args.b.0).server
          c.copy_first.result h.refused h.rest h.fit h.unarmed h.faults h.others h.on h.room h.room_left h.spare;
    }

pub returns-clause-stops : goal.returns-clause-stops
returns-clause-stops g c = err-along c.copy_first.result c.copy_first.ensures.refused c.copy_first.ensures.refused (λ refused _. ap is_stop refused)
