use Rattle.std.proofs.Common.{ℕ, false, not, refl, sym, ap, ◌∙◌, arith, List, None, Some}
use Rattle.dr_ids.specs.Sizes.{record_blocks}
use Rattle.dr_record.specs.Slots.{slot_of, choice, record_writes}
use Rattle.dr_plant.specs.Writes.{after_writes}
use Rattle.dr_plant.proofs.WritesLemmas.{err_pair, append-goes, append-stops, device-shape, ends}
use Rattle.dr_model.specs.Moves.{Carried}
use Rattle.dr_volume.specs.Record.{record_block}
use Rattle.dr_volume.specs.Update.{staging, track_writes, destage_writes}
use Rattle.dr_volume.proofs.RanLaws.{ran-written}
use Rattle.dr_volume.proofs.RewriteLaws.{track-written}
use Rattle.dr_volume.proofs.change.unstage.Goals as goal

pub returns-in_err-write_track-in-Some : goal.returns-in_err-write_track-in-Some
returns-in_err-write_track-in-Some g c =
    let s = g.P.Plant.state c.args.plant.now in
    let d = c.args.device.0 in
    ap (λ (o : Carried). after_writes s d (destage_writes (not (slot_of s d)) o c.args.fields.now)) c.in-Some.is
    ∙ append-stops s _ d (track_writes (Some c.in-Some.field-0)) (record_writes 6 (not (slot_of s d)) (record_block (staging None c.args.fields.now)))
    (ap (λ (o : Carried). after_writes s d (track_writes o)) (sym c.in-Some.is) ∙ c.in_err-write_track-in-Some.ensures)
    ∙ err_pair _ _ _ c.from_residual.ensures.0 refl

pub put-requires-clause-device : goal.put-requires-clause-device
put-requires-clause-device g c =
    let s = g.P.Plant.state c.args.plant.now in
    device-shape s _ c.args.device.0 record_blocks (ran-written s _ c.args.device.0 _ false c.in_ok-write_track-in-Some.ensures).shape c.requires.device

pub put-requires-clause-chosen : goal.put-requires-clause-chosen
put-requires-clause-chosen g c =
    let s = g.P.Plant.state c.args.plant.now in
    ap (λ (b : List ℕ). choice b) ((track-written s _ c.args.device.0 c.args.old.now false c.in_ok-write_track-in-Some.ensures).low 0 (omega arith)) ∙ c.requires.chosen

pub returns-in_ok-write_track-in-Some : goal.returns-in_ok-write_track-in-Some
returns-in_ok-write_track-in-Some g c =
    let s = g.P.Plant.state c.args.plant.now in
    let s1 = g.P.Plant.state c.write_track.new.plant in
    let d = c.args.device.0 in
    ap (λ (o : Carried). after_writes s d (destage_writes (not (slot_of s d)) o c.args.fields.now)) c.in-Some.is
    ∙ append-goes s s1 d (track_writes (Some c.in-Some.field-0)) (record_writes 6 (not (slot_of s d)) (record_block (staging None c.args.fields.now)))
    (ap (λ (o : Carried). after_writes s d (track_writes o)) (sym c.in-Some.is) ∙ c.in_ok-write_track-in-Some.ensures)
    ∙ (λ i. after_writes s1 d (record_writes 6 (not (c.requires.chosen i)) (record_block (sym c.stage.ensures i))))
    ∙ c.put.ensures.writes

pub returns-in-None : goal.returns-in-None
returns-in-None g c =
    let s = g.P.Plant.state c.args.plant.now in
    ap (λ (o : Carried). after_writes s c.args.device.0 (destage_writes (not (slot_of s c.args.device.0)) o c.args.fields.now)) c.in-None.is
    ∙ ends s c.args.device.0
