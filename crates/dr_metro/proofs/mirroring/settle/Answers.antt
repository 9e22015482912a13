use Rattle.std.proofs.Common.{ℕ, ◌≡◌, ◌∷◌, [], ◌+◌, List, false, length, arith, ap, sym, ◌∙◌}
use Rattle.dr_model.specs.Carry.{now}
use Rattle.dr_model.specs.Entries.{copies_from, copy_first}
use Rattle.dr_model.specs.Moves.{LandBoth}
use Rattle.dr_model.specs.Pairs.{synced}
use Rattle.dr_volume.specs.View.{ids_of, volume_seen}
use Rattle.dr_moves.specs.Checks.{is_stop}
use Rattle.dr_moves.proofs.TurnLemmas.{refused-by, ok-along, err-along}
use Rattle.dr_flash.proofs.CopyLemmas.{no-own}
use Rattle.dr_flash.proofs.MoveLemmas.{stored-track}
use Rattle.dr_gcopy.proofs.PairChecks.{servers-apart}
use Rattle.dr_gcopy.proofs.SendLemmas.{other-server}
use Rattle.dr_logic.proofs.Results.{err-always}
use Rattle.dr_metro.proofs.WroteLemmas.{wrote-then, wrote-failed, land-before}
use Rattle.dr_metro.proofs.mirroring.settle.Goals as goal

pub returns-in_err-keep_found-clause-wrote : goal.returns-in_err-keep_found-clause-wrote
returns-in_err-keep_found-clause-wrote g c =
    let s = g.P.Plant.state c.args.plant.now in
    let t = c.args.config.now in
    let v = c.args.m.from.0 in
    let n = length t.volumes in
    wrote-failed s (g.P.Plant.state c.keep_found.new.plant) t c.args.h.now c.args.journal.now c.keep_found.new.journal (copy_first (ids_of t.volumes) v c.args.m.track) (λ q. copies_from v (volume_seen s t q).fields ≡ false) (n + 1) n
    (now (LandBoth c.args.m.write.0 v c.args.m.track) ∷ []) (n + 1) c.from_residual.result c.in_err-keep_found.field-0.0 c.from_residual.ensures.0 c.from_residual.ensures.1 (omega arith) c.requires.can.can.told c.in_err-keep_found.ensures.ran

pub returns-in_err-keep_found-clause-stops : goal.returns-in_err-keep_found-clause-stops
returns-in_err-keep_found-clause-stops g c = err-always c.from_residual.result (ap is_stop (refused-by c.from_residual.result c.in_err-keep_found.field-0.0 c.from_residual.ensures.0 c.from_residual.ensures.1) ∙ c.in_err-keep_found.ensures.stops)

pub land_both_by-requires-clause-can : goal.land_both_by-requires-clause-can
land_both_by-requires-clause-can g c =
    let s = g.P.Plant.state c.args.plant.now in
    let t = c.args.config.now in
    let v = c.args.m.from.0 in
    let n = length t.volumes in
    let ran = c.in_ok-keep_found.ensures.ran in
    land-before s (g.P.Plant.state c.keep_found.new.plant) t c.args.h.now c.args.journal.now c.keep_found.new.journal (copy_first (ids_of t.volumes) v c.args.m.track) (λ q. copies_from v (volume_seen s t q).fields ≡ false) (n + 1) n c.args.m.write.0 v c.args.m.track c.args.bytes.now c.args.fields.now
    ran (ran.stays.others v (no-own s t v c.requires.can.can.at.fit)) c.requires.can.can

pub returns-clause-wrote : goal.returns-clause-wrote
returns-clause-wrote g c =
    let s = g.P.Plant.state c.args.plant.now in
    let m = g.P.Plant.state c.keep_found.new.plant in
    let u = g.P.Plant.state c.land_both_by.new.plant in
    let t = c.args.config.now in
    let v = c.args.m.from.0 in
    let n = length t.volumes in
    let last = now (LandBoth c.args.m.write.0 v c.args.m.track) ∷ [] in
    wrote-then s m t c.args.h.now c.args.journal.now c.keep_found.new.journal (copy_first (ids_of t.volumes) v c.args.m.track) (λ q. copies_from v (volume_seen s t q).fields ≡ false) (n + 1) n
    u c.land_both_by.new.h c.land_both_by.new.journal last 1 (n + 1) c.land_both_by.result (omega arith) c.in_ok-keep_found.ensures.ran c.land_both_by.ensures.wrote

pub returns-clause-stops : goal.returns-clause-stops
returns-clause-stops g c = err-along c.land_both_by.result c.land_both_by.ensures.refused c.land_both_by.ensures.refused (λ refused _. ap is_stop refused)

pub returns-clause-equal : goal.returns-clause-equal
returns-clause-equal g c =
    let s = g.P.Plant.state c.args.plant.now in
    let m = g.P.Plant.state c.keep_found.new.plant in
    let u = g.P.Plant.state c.land_both_by.new.plant in
    let t = c.args.config.now in
    let v = c.args.m.from.0 in
    let to = c.args.m.to.0 in
    let k = c.args.m.track in
    let apart = c.requires.can.pair.two_servers in
    ok-along c.land_both_by.result c.land_both_by.ensures.moved (λ is.
    ap (λ (z : ℕ → List ℕ). z k) (c.land_both_by.ensures.others to (λ e. servers-apart s t v to apart (sym e))).tracks
    ∙ ap (λ (z : ℕ → List ℕ). z k) (c.in_ok-keep_found.ensures.ran.stays.others to (other-server s t to v c.requires.can.can.at.fit (λ e. apart (sym e)))).tracks
    ∙ c.requires.stored
    ∙ sym (stored-track m u t v k (synced (volume_seen m t v).fields k) c.args.bytes.now is))
