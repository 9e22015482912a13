use Rattle.std.proofs.Common.{◌≡◌, ◌≢◌, ◌+◌, false, length, arith, ap, ◌∙◌}
use Rattle.dr_model.specs.Entries.{copies_from}
use Rattle.dr_volume.specs.View.{ids_of, volume_seen}
use Rattle.dr_moves.specs.Checks.{is_stop}
use Rattle.dr_moves.proofs.TurnLemmas.{refused-by}
use Rattle.dr_gcopy.proofs.PairChecks.{servers-apart}
use Rattle.dr_gcopy.proofs.SendLemmas.{other-server}
use Rattle.dr_logic.proofs.Results.{err-always}
use Rattle.dr_metro.specs.Mirroring.{settle_entries, store_entries}
use Rattle.dr_metro.proofs.WroteLemmas.{wrote-then, wrote-failed, land-before, pair-still, none-still}
use Rattle.dr_metro.proofs.mirroring.store_and_settle.Goals as goal

pub returns-in_err-store_new-clause-wrote : goal.returns-in_err-store_new-clause-wrote
returns-in_err-store_new-clause-wrote g c =
    let s = g.P.Plant.state c.args.plant.now in
    let t = c.args.config.now in
    let r = c.args.m in
    let u = r.to.0 in
    let n = length t.volumes in
    wrote-failed s (g.P.Plant.state c.store_new.new.plant) t c.args.h.now c.args.journal.now c.store_new.new.journal (store_entries (ids_of t.volumes) r.write.0 r.from.0 r.track u) (λ q. (q ≢ u) × (copies_from u (volume_seen s t q).fields ≡ false)) (n + 2) (n + 1)
    (settle_entries (ids_of t.volumes) r.write.0 r.from.0 r.track) (n + (n + 2)) c.from_residual.result c.in_err-store_new.field-0.0 c.from_residual.ensures.0 c.from_residual.ensures.1 (omega arith) c.requires.settle.can.told c.in_err-store_new.ensures.ran

pub returns-in_err-store_new-clause-stops : goal.returns-in_err-store_new-clause-stops
returns-in_err-store_new-clause-stops g c = err-always c.from_residual.result (ap is_stop (refused-by c.from_residual.result c.in_err-store_new.field-0.0 c.from_residual.ensures.0 c.from_residual.ensures.1) ∙ c.in_err-store_new.ensures.stops)

pub settle-requires-clause-can : goal.settle-requires-clause-can
settle-requires-clause-can g c =
    let s = g.P.Plant.state c.args.plant.now in
    let m = g.P.Plant.state c.store_new.new.plant in
    let t = c.args.config.now in
    let r = c.args.m in
    let v = r.from.0 in
    let u = r.to.0 in
    let n = length t.volumes in
    let can = c.requires.settle in
    let ran = c.in_ok-store_new.ensures.ran in
    let same = ran.stays.others v (servers-apart s t v u can.pair.two_servers, other-server s t v u can.can.at.fit can.pair.two_servers) in
    record {
      can = land-before s m t c.args.h.now c.args.journal.now c.store_new.new.journal (store_entries (ids_of t.volumes) r.write.0 v r.track u) (λ q. (q ≢ u) × (copies_from u (volume_seen s t q).fields ≡ false)) (n + 2) (n + 1) r.write.0 v r.track c.args.bytes.now c.args.fields.now ran same can.can;
      pair = pair-still s m t v u can.pair;
      alone = λ none. none-still s m t v u can.can.at.fit ran.stays.at.fit can.pair (λ q ne other. ran.stays.others q (ne, other)) (can.alone none);
    }

pub settle-requires-clause-room : goal.settle-requires-clause-room
settle-requires-clause-room g c = let a = c.in_ok-store_new.ensures.ran.stays.left in let b = c.requires.room in omega (arith, a, b)

pub returns-clause-wrote : goal.returns-clause-wrote
returns-clause-wrote g c =
    let s = g.P.Plant.state c.args.plant.now in
    let t = c.args.config.now in
    let r = c.args.m in
    let u = r.to.0 in
    let n = length t.volumes in
    wrote-then s (g.P.Plant.state c.store_new.new.plant) t c.args.h.now c.args.journal.now c.store_new.new.journal (store_entries (ids_of t.volumes) r.write.0 r.from.0 r.track u) (λ q. (q ≢ u) × (copies_from u (volume_seen s t q).fields ≡ false)) (n + 2) (n + 1)
    (g.P.Plant.state c.settle.new.plant) c.settle.new.h c.settle.new.journal (settle_entries (ids_of t.volumes) r.write.0 r.from.0 r.track) (n + 1) (n + (n + 2)) c.settle.result (omega arith) c.in_ok-store_new.ensures.ran c.settle.ensures.wrote
