use Rattle.std.proofs.Common.{ℕ, ◌≡◌, ◌≢◌, ◌<◌, ◌∷◌, [], ◌+◌, List, false, length, arith, ap, sym, subst, ◌∙◌}
use Rattle.dr_model.specs.Carry.{now}
use Rattle.dr_model.specs.Contents.{with_write}
use Rattle.dr_model.specs.Entries.{copies_from, copy_first}
use Rattle.dr_model.specs.Moves.{Mirror}
use Rattle.dr_model.specs.Pairs.{mirrored}
use Rattle.dr_volume.specs.View.{ids_of, volume_seen}
use Rattle.dr_volume.proofs.SaysLaws.{says-along}
use Rattle.dr_moves.specs.Checks.{is_stop}
use Rattle.dr_moves.proofs.ActedLemmas.{err-is}
use Rattle.dr_moves.proofs.TurnLemmas.{refused-by, ok-along}
use Rattle.dr_flash.proofs.CopyLemmas.{no-own}
use Rattle.dr_flash.proofs.MoveLemmas.{stored-track}
use Rattle.dr_gcopy.specs.Ran.{Ran}
use Rattle.dr_gcopy.proofs.RanLemmas.{ran-then, ran-failed}
use Rattle.dr_gcopy.proofs.SendLemmas.{other-server, same-tracks}
use Rattle.dr_logic.proofs.Results.{err-always}
use Rattle.dr_metro.specs.Mirroring.{store_entries}
use Rattle.dr_metro.proofs.WroteLemmas.{ran-writes, on-still}
use Rattle.dr_metro.proofs.mirroring.store_new.Goals as goal

pub returns-in_err-keep_found-clause-ran : goal.returns-in_err-keep_found-clause-ran
returns-in_err-keep_found-clause-ran g c =
    let s = g.P.Plant.state c.args.plant.now in
    let m = g.P.Plant.state c.keep_found.new.plant in
    let t = c.args.config.now in
    let u = c.args.m.to.0 in
    let n = length t.volumes in
    let e = c.in_err-keep_found.field-0.0 in
    subst (λ res. Ran s m t c.args.journal.now c.keep_found.new.journal (store_entries (ids_of t.volumes) c.args.m.write.0 c.args.m.from.0 c.args.m.track u) (λ q. (q ≢ u) × (copies_from u (volume_seen s t q).fields ≡ false)) (n + 2) (n + 1) res) (sym (err-is c.from_residual.result e c.from_residual.ensures.0 c.from_residual.ensures.1))
    (ran-failed s m t c.args.journal.now c.keep_found.new.journal (copy_first (ids_of t.volumes) u c.args.m.track) (now (Mirror u c.args.m.track c.args.m.from.0 c.args.m.write.0) ∷ []) (λ q. copies_from u (volume_seen s t q).fields ≡ false) (λ q. (q ≢ u) × (copies_from u (volume_seen s t q).fields ≡ false))
    (n + 1) n (n + 2) (n + 1) (λ q spared. spared.1) (omega arith) e c.in_err-keep_found.ensures.ran)

pub returns-in_err-keep_found-clause-stops : goal.returns-in_err-keep_found-clause-stops
returns-in_err-keep_found-clause-stops g c = err-always c.from_residual.result (ap is_stop (refused-by c.from_residual.result c.in_err-keep_found.field-0.0 c.from_residual.ensures.0 c.from_residual.ensures.1) ∙ c.in_err-keep_found.ensures.stops)

pub mirror_by-requires-clause-may : goal.mirror_by-requires-clause-may
mirror_by-requires-clause-may g c =
    let s = g.P.Plant.state c.args.plant.now in
    let m = g.P.Plant.state c.keep_found.new.plant in
    let t = c.args.config.now in
    let can = c.requires.can in
    record { defined = can.pair.to; running = on-still s m t c.args.m.to.0 c.in_ok-keep_found.ensures.ran.stays.on can.reached; asks = subst (λ k. c.args.m.track < k) (same-tracks s m t c.args.m.to.0) can.within }

pub mirror_by-requires-clause-bytes : goal.mirror_by-requires-clause-bytes
mirror_by-requires-clause-bytes g c =
    let s = g.P.Plant.state c.args.plant.now in
    let t = c.args.config.now in
    let u = c.args.m.to.0 in
    let v = c.args.m.from.0 in
    let n = length t.volumes in
    let can = c.requires.can in
    let ran = c.in_ok-keep_found.ensures.ran in
    let same = ap (λ (z : ℕ → List ℕ). z c.args.m.track) (ran.stays.others v (other-server s t v u can.at.fit can.pair.two_servers)).tracks in
    let writes = ran-writes s (g.P.Plant.state c.keep_found.new.plant) t (record { issued = 0; pending = [] }) c.args.journal.now c.keep_found.new.journal (copy_first (ids_of t.volumes) u c.args.m.track) (λ q. copies_from u (volume_seen s t q).fields ≡ false) (n + 1) n ran in
    can.bytes ∙ sym (λ i. with_write (writes i) (same i) c.args.m.write.0)

pub mirror_by-requires-clause-says : goal.mirror_by-requires-clause-says
mirror_by-requires-clause-says g c =
    let s = g.P.Plant.state c.args.plant.now in
    let t = c.args.config.now in
    let u = c.args.m.to.0 in
    says-along s (g.P.Plant.state c.keep_found.new.plant) t u c.args.to.now (c.in_ok-keep_found.ensures.ran.stays.others u (no-own s t u c.requires.can.at.fit)) c.requires.can.says

pub returns-clause-ran : goal.returns-clause-ran
returns-clause-ran g c =
    let s = g.P.Plant.state c.args.plant.now in
    let t = c.args.config.now in
    let u = c.args.m.to.0 in
    let n = length t.volumes in
    ran-then s (g.P.Plant.state c.keep_found.new.plant) (g.P.Plant.state c.mirror_by.new.plant) t c.args.journal.now c.keep_found.new.journal c.mirror_by.new.journal (copy_first (ids_of t.volumes) u c.args.m.track) (now (Mirror u c.args.m.track c.args.m.from.0 c.args.m.write.0) ∷ [])
    (λ q. copies_from u (volume_seen s t q).fields ≡ false) (λ q. q ≢ u) (λ q. (q ≢ u) × (copies_from u (volume_seen s t q).fields ≡ false)) (n + 1) n 2 1 (n + 2) (n + 1) (λ q spared. spared.1) (λ q spared. spared.0) (omega arith) (omega arith)
    c.in_ok-keep_found.ensures.ran c.mirror_by.result c.mirror_by.ensures.ran

pub returns-clause-stored : goal.returns-clause-stored
returns-clause-stored g c =
    let m = g.P.Plant.state c.keep_found.new.plant in
    let t = c.args.config.now in
    let u = c.args.m.to.0 in
    ok-along c.mirror_by.result c.mirror_by.ensures.moved (λ is. stored-track m (g.P.Plant.state c.mirror_by.new.plant) t u c.args.m.track (mirrored (volume_seen m t u).fields c.args.m.track) c.args.bytes.now is)
