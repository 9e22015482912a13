use Rattle.std.proofs.Common.{◌≡◌, true, false, ◌&&◌, ◌+◌, length, arith, ap, sym, subst, refl, ◌∙◌}
use Rattle.std.specs.Result.{IfOk}
use Rattle.dr_host.specs.Writes.{Writes}
use Rattle.dr_model.specs.Layout.{Fields}
use Rattle.dr_model.specs.Pairs.{goes_over, is_cascaded}
use Rattle.dr_model.specs.WriteEntries.{waits, write_stretches}
use Rattle.dr_volume.specs.Plain.{plain}
use Rattle.dr_volume.specs.View.{volume_seen}
use Rattle.dr_moves.proofs.ActedLemmas.{err-is}
use Rattle.dr_metro.specs.declared.sync.WriteEnd.{WriteEnd}
use Rattle.dr_host.specs.Here.{here}
use Rattle.dr_metro.specs.Syncing.{placed_stretches, stretches_by, waits_by, end_of}
use Rattle.dr_metro.specs.Writing.{IsDue, WroteIn}
use Rattle.dr_metro.proofs.SyncLemmas.{uncascaded-stretches, uncascaded-waits}
use Rattle.dr_metro.proofs.WroteInLemmas.{checks-failed, checks-passed, in-as}
use Rattle.dr_metro.proofs.sync.sync_write_by.Goals as goal

pub returns-in_err-found-clause-wrote : goal.returns-in_err-found-clause-wrote
returns-in_err-found-clause-wrote g c =
    let s = g.P.Plant.state c.args.plant.now in
    let t = c.args.config.now in
    let h = c.args.h.now in
    let j = c.args.journal.now in
    let w = c.args.w.now in
    let v = w.volume.0 in
    let n = length t.volumes in
    let why = c.in_err-found.field-0.0 in
    let e = c.in_err-found.ensures in
    let new = c.check_write.new.h in
    let due = c.requires.due in
    subst (λ res. WroteIn s s t h new j j (λ k. write_stretches k w.w.0 v w.track) (n + (n + 6)) res) (sym (err-is c.from_residual.result why c.from_residual.ensures.0 c.from_residual.ensures.1))
    (checks-failed s s t h new j j w.w.0 v w.track (n + (n + 6)) why e.calm e.ends due.at (e.told j.events due.told) e.issued)

pub place_write-requires-clause-due : goal.place_write-requires-clause-due
place_write-requires-clause-due g c =
    subst (λ (x : Writes). IsDue (g.P.Plant.state c.args.plant.now) c.args.config.now x c.args.journal.now.events c.args.w.now) (sym c.in_ok-found.ensures.same) c.requires.due

pub returns-clause-wrote : goal.returns-clause-wrote
returns-clause-wrote g c =
    let s = g.P.Plant.state c.args.plant.now in
    let t = c.args.config.now in
    let w = c.args.w.now in
    let v = w.volume.0 in
    let n = length t.volumes in
    let m = g.P.Plant.state c.place_write.new.plant in
    let j = c.args.journal.now in
    let new = c.place_write.new in
    let ok = c.in_ok-found.ensures in
    let shows = c.requires.shows.fields in
    let free = subst (λ (f : Fields). goes_over f w.track ≡ true → is_cascaded (volume_seen s t f.primary_partner).fields ≡ false) shows c.requires.uncascaded in
    let h = c.check_write.new.h in
    subst (λ (x : Writes). WroteIn s m t x new.h j new.journal (λ k. write_stretches k w.w.0 v w.track) (n + (n + 6)) c.place_write.result) ok.same
    (checks-passed s m t h new.h j new.journal w.w.0 v w.track (n + (n + 6)) c.place_write.result c.requires.due.at.rest.stands c.requires.due.defined ok.running ok.free
    (in-as s m t h new.h j new.journal (λ k. stretches_by k (plain c.args.fields.now) w.w.0 v w.track) (λ k. placed_stretches k w.w.0 v w.track) (n + (n + 6)) (n + (n + 6)) c.place_write.result c.place_write.result (omega arith)
    (λ r. let k = (here s t r h j.events).control in
    ap (λ (f : Fields). stretches_by k f w.w.0 v w.track) shows ∙ uncascaded-stretches k w.w.0 v w.track free) refl c.place_write.ensures.wrote))

pub returns-clause-end : goal.returns-clause-end
returns-clause-end g c rest =
    let s = g.P.Plant.state c.args.plant.now in
    let t = c.args.config.now in
    let ev = c.args.journal.now.events in
    let w = c.args.w.now in
    let v = w.volume.0 in
    let shows = c.requires.shows.fields in
    let free = subst (λ (f : Fields). goes_over f w.track ≡ true → is_cascaded (volume_seen s t f.primary_partner).fields ≡ false) shows c.requires.uncascaded in
    subst (λ (h : Writes). IfOk c.place_write.result (λ (e : WriteEnd). e ≡ end_of (waits (here s t rest h ev).control v w.track))) c.in_ok-found.ensures.same
    (let k = (here s t rest c.check_write.new.h ev).control in
    subst (λ b. IfOk c.place_write.result (λ (e : WriteEnd). e ≡ end_of b)) (uncascaded-waits k w.w.0 v w.track free)
    (subst (λ (f : Fields). IfOk c.place_write.result (λ (e : WriteEnd). e ≡ end_of (waits_by k f v w.track))) shows (c.place_write.ensures.end rest)))
