use Rattle.std.proofs.Common.{◌≡◌, ◌+◌, false, length, arith, ap, refl}
use Rattle.dr_model.specs.Entries.{copies_from}
use Rattle.dr_volume.specs.View.{volume_seen, ids_of}
use Rattle.dr_moves.specs.Checks.{is_stop}
use Rattle.dr_moves.proofs.TurnLemmas.{err-along}
use Rattle.dr_flash.proofs.KeepLemmas.{passes-all}
use Rattle.dr_gcopy.proofs.RanLemmas.{stays-by}
use Rattle.dr_metro.proofs.mirroring.keep_found.Goals as goal

pub returns-then-found-clause-ran : goal.returns-then-found-clause-ran
returns-then-found-clause-ran g c =
    let s = g.P.Plant.state c.args.plant.now in
    let t = c.args.config.now in
    let h = c.copy_first.ensures in
    record {
      leads = h.leads;
      fails = h.fails;
      stays = stays-by s (g.P.Plant.state c.copy_first.new.plant) t c.args.journal.now c.copy_first.new.journal (λ q. copies_from c.args.v.0 (volume_seen s t q).fields ≡ false) (length t.volumes + 1) (length t.volumes) (volume_seen s t c.args.v.0).server
          c.copy_first.result h.refused h.rest h.fit h.unarmed h.faults h.others h.on h.room h.room_left h.spare;
    }

pub returns-then-found-clause-stops : goal.returns-then-found-clause-stops
returns-then-found-clause-stops g c = err-along c.copy_first.result c.copy_first.ensures.refused c.copy_first.ensures.refused (λ refused _. ap is_stop refused)

pub returns-clause-ran : goal.returns-clause-ran
returns-clause-ran g c =
    let s = g.P.Plant.state c.args.plant.now in
    let t = c.args.config.now in
    record {
      leads = λ r. passes-all s t r c.args.journal.now.events c.args.v.0 c.args.t (ids_of t.volumes) (c.requires.alone c.if-found.false);
      fails = tt;
      stays = record {
        at = c.requires.at;
        unarmed = λ q none. none;
        faults = refl;
        others = λ q spared. record { volume = refl; tracks = refl; saved = refl };
        on = refl;
        room = omega arith;
        left = omega arith;
        spare = refl;
      };
    }
