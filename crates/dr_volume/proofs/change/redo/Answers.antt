use Rattle.std.proofs.Common.{ap, sym, ◌∙◌, cond, refl, true, rules}
use Rattle.std.specs.Prelude.{is_err}
use Rattle.dr_logic.specs.Counts.{risen}
use Rattle.dr_plant.specs.State.{after_read, can_read}
use Rattle.dr_plant.proofs.StateLemmas.{read_done}
use Rattle.dr_plant.specs.Writes.{after_writes}
use Rattle.dr_volume.specs.Update.{track_writes}
use Rattle.dr_volume.proofs.VolumeLaws.{device-placed}
use Rattle.dr_volume.proofs.RanLaws.{on_ok, on_err}
use Rattle.dr_volume.proofs.RedoLaws.{Redone, redone-read, redone-unread, staged-fits}
use Rattle.dr_volume.proofs.change.redo.Goals as goal

pub returns-in_err-fields : goal.returns-in_err-fields
returns-in_err-fields g c =
    let s = g.P.Plant.state c.args.plant.now in
    let t = g.P.Plant.state c.load.new.plant in
    let d = c.find.result.device.0 in
    let at = device-placed c.args.config.now c.args.v.0 d c.find.ensures.place in
    let all : Redone c.args.config.now s t c.args.v.0 true = redone-unread c.args.config.now s t c.args.v.0 d c.find.result.tracks c.find.ensures c.requires.stands
    (sym (c.in_err-fields.ensures.done ∙ ap (can_read s) at)) (c.in_err-fields.ensures.state ∙ ap (after_read s) at) in
    record {
      written = all.written ∙ (λ i. (t, sym c.from_residual.ensures.0 i));
      exact = λ rest. record { world = (all.exact rest).world; stopped = c.from_residual.ensures.0 ∙ (all.exact rest).stopped };
      same = all.same;
      stands = all.stands;
      unarmed = all.unarmed;
      servers = all.servers;
      on = search rules;
      off = on_err c.from_residual.result (λ stopped. all.off refl);
      fault = on_err c.from_residual.result (λ stopped. all.faults);
      no_fault = search rules;
    }

pub write_track-requires : goal.write_track-requires
write_track-requires g c =
    let s = g.P.Plant.state c.args.plant.now in
    let d = c.find.result.device.0 in
    let at = device-placed c.args.config.now c.args.v.0 d c.find.ensures.place in
    let same = c.in_ok-fields.ensures.state ∙ read_done s _ (sym c.in_ok-fields.ensures.done) in
    let fits = staged-fits c.args.config.now s (g.P.Plant.state c.load.new.plant) c.args.v.0 d c.find.result.tracks c.in_ok-fields.fields c.staged_track.result c.find.ensures c.requires.stands same c.in_ok-fields.ensures.shows c.staged_track.ensures in
    record { device = fits.0; track = fits.1 }

pub returns : goal.returns
returns g c =
    let s = g.P.Plant.state c.args.plant.now in
    let t = g.P.Plant.state c.write_track.new.plant in
    let d = c.find.result.device.0 in
    let b = is_err c.write_track.result in
    let at = device-placed c.args.config.now c.args.v.0 d c.find.ensures.place in
    let same = c.in_ok-fields.ensures.state ∙ read_done s _ (sym c.in_ok-fields.ensures.done) in
    let all : Redone c.args.config.now s t c.args.v.0 b =
    redone-read c.args.config.now s t c.args.v.0 d c.find.result.tracks c.in_ok-fields.fields b c.find.ensures c.requires.stands
    (sym (c.in_ok-fields.ensures.done ∙ ap (can_read s) at)) c.in_ok-fields.ensures.shows
    ((λ i. after_writes (sym same i) d (track_writes (sym c.staged_track.ensures i))) ∙ c.write_track.ensures) in
    record {
      written = all.written;
      exact = all.exact;
      same = all.same;
      stands = all.stands;
      unarmed = all.unarmed;
      servers = all.servers;
      on = on_ok c.write_track.result all.on;
      off = on_err c.write_track.result all.off;
      fault = on_err c.write_track.result (λ stopped. all.faults ∙ ap (λ x. cond x (risen s.faults) s.faults) stopped);
      no_fault = on_ok c.write_track.result (λ ok. all.faults ∙ ap (λ x. cond x (risen s.faults) s.faults) ok);
    }
