use Rattle.std.proofs.Common.{◌≡◌, ◌≢◌, ◌+◌, false, length, arith, ap, sym, subst, ◌∙◌}
use Rattle.dr_model.specs.Control.{Volume}
use Rattle.dr_model.specs.Entries.{copies_from, copy_first}
use Rattle.dr_model.specs.Pairs.{is_last, received, struck}
use Rattle.dr_volume.specs.View.{volume_seen, ids_of}
use Rattle.dr_flash.proofs.CopyLemmas.{no-own}
use Rattle.dr_moves.proofs.ActedLemmas.{err-is}
use Rattle.dr_moves.proofs.TurnLemmas.{ok-along}
use Rattle.dr_gcopy.specs.Ran.{Ran}
use Rattle.dr_gcopy.specs.Sending.{exchange_entries, pass_entries}
use Rattle.dr_gcopy.proofs.RanLemmas.{ran-then, ran-failed, can-still}
use Rattle.dr_gcopy.proofs.SendLemmas.{other-server}
use Rattle.dr_gcopy.proofs.passing.hand_over.Goals as goal

pub returns-in_err-keep_first-clause-ran : goal.returns-in_err-keep_first-clause-ran
returns-in_err-keep_first-clause-ran g c =
    let s = g.P.Plant.state c.args.plant.now in
    let m = g.P.Plant.state c.keep_first.new.plant in
    let t = c.args.config.now in
    let n = length c.args.config.now.volumes in
    let e = c.in_err-keep_first.field-0.0 in
    subst (λ res. Ran s m t c.args.journal.now c.keep_first.new.journal (pass_entries (ids_of t.volumes) c.args.a.0 c.args.b.0 c.args.t) (λ q. (q ≢ c.args.a.0) × ((q ≢ c.args.b.0) × (copies_from c.args.b.0 (volume_seen s t q).fields ≡ false))) (n + 2) (n + 1) res) (sym (err-is c.from_residual.result e c.from_residual.ensures.0 c.from_residual.ensures.1))
    (ran-failed s m t c.args.journal.now c.keep_first.new.journal (copy_first (ids_of t.volumes) c.args.b.0 c.args.t) (exchange_entries c.args.a.0 c.args.b.0 c.args.t) (λ q. copies_from c.args.b.0 (volume_seen s t q).fields ≡ false) (λ q. (q ≢ c.args.a.0) × ((q ≢ c.args.b.0) × (copies_from c.args.b.0 (volume_seen s t q).fields ≡ false)))
    (n + 1) n (n + 2) (n + 1) (λ q spared. spared.1.1) (omega arith) e c.in_err-keep_first.ensures.ran)

pub pass_track-requires-clause-can : goal.pass_track-requires-clause-can
pass_track-requires-clause-can g c =
    let s = g.P.Plant.state c.args.plant.now in
    let t = c.args.config.now in
    let stays = c.in_ok-keep_first.ensures.ran.stays in
    can-still s (g.P.Plant.state c.keep_first.new.plant) t c.args.a.0 c.args.b.0 c.args.t c.args.fields.now c.args.bytes.now c.args.last stays.on
    (stays.others c.args.a.0 (other-server s t c.args.a.0 c.args.b.0 c.requires.at.fit c.requires.can.two_servers)) (stays.others c.args.b.0 (no-own s t c.args.b.0 c.requires.at.fit)) c.requires.can

pub returns-clause-ran : goal.returns-clause-ran
returns-clause-ran g c =
    let s = g.P.Plant.state c.args.plant.now in
    let t = c.args.config.now in
    let n = length c.args.config.now.volumes in
    ran-then s (g.P.Plant.state c.keep_first.new.plant) (g.P.Plant.state c.pass_track.new.plant) t c.args.journal.now c.keep_first.new.journal c.pass_track.new.journal (copy_first (ids_of t.volumes) c.args.b.0 c.args.t) (exchange_entries c.args.a.0 c.args.b.0 c.args.t)
    (λ q. copies_from c.args.b.0 (volume_seen s t q).fields ≡ false) (λ q. (q ≢ c.args.a.0) × (q ≢ c.args.b.0)) (λ q. (q ≢ c.args.a.0) × ((q ≢ c.args.b.0) × (copies_from c.args.b.0 (volume_seen s t q).fields ≡ false)))
    (n + 1) n 2 1 (n + 2) (n + 1) (λ q spared. spared.1.1) (λ q spared. (spared.0, spared.1.0)) (omega arith) (omega arith) c.in_ok-keep_first.ensures.ran c.pass_track.result c.pass_track.ensures.ran

pub returns-clause-struck : goal.returns-clause-struck
returns-clause-struck g c =
    let s = g.P.Plant.state c.args.plant.now in
    let from = (c.in_ok-keep_first.ensures.ran.stays.others c.args.a.0 (other-server s c.args.config.now c.args.a.0 c.args.b.0 c.requires.at.fit c.requires.can.two_servers)).volume in
    ok-along c.pass_track.result c.pass_track.ensures.struck (λ is. is ∙ ap (λ (x : Volume). struck (is_last x.fields c.args.t) x.fields c.args.t) from)

pub returns-clause-stored : goal.returns-clause-stored
returns-clause-stored g c =
    let s = g.P.Plant.state c.args.plant.now in
    let t = c.args.config.now in
    let stays = c.in_ok-keep_first.ensures.ran.stays in
    let from = (stays.others c.args.a.0 (other-server s t c.args.a.0 c.args.b.0 c.requires.at.fit c.requires.can.two_servers)).volume in
    let to = (stays.others c.args.b.0 (no-own s t c.args.b.0 c.requires.at.fit)).volume in
    ok-along c.pass_track.result c.pass_track.ensures.stored (λ is. is ∙ (λ i. received (is_last (from i).fields c.args.t) (to i).fields c.args.t))
