use Rattle.std.proofs.Common.{◌≡◌, ◌≤◌, ◌*◌, ap, ◌∙◌, arith, take, length}
use Rattle.std.specs.Option.{unwrap_or}
use Rattle.dr_model.specs.Histories.{histories}
use Rattle.dr_model.specs.Contents.{image_at, volume_image}
use Rattle.dr_model.proofs.Overlay.{more_tracks, all_tracks, length-image}
use Rattle.dr_model.proofs.image.image_of.Goals as goal

pub loop-track-preserved : goal.loop-track-preserved
loop-track-preserved c =
    let h = histories (take c.args.place c.args.journal.now.events) in
    let start : c.from-start.result * 64 ≡ 64 * c.loop-track.track = omega arith in
    let within : c.from-start.result * 64 ≤ length c.loop-track.into = omega arith in
    let len : length c.write_track.new.into ≡ 64 = ap length c.write_track.ensures ∙ length-image h.write (h.now c.args.volume c.loop-track.track) in
    more_tracks (image_at (take c.args.place c.args.journal.now.events) c.args.volume) c.loop-track.into c.write_track.new.into c.loop-track.track
    _ _ start within len c.write_track.ensures c.loop-track.invariant

pub returns-clause-image : goal.returns-clause-image
unfolding volume_image
returns-clause-image c true_is =
    let h = histories (take c.args.place c.args.journal.now.events) in
    let tracks : c.in-Some.tracks ≡ unwrap_or (h.tracks c.args.volume) 0 = ap (λ o. unwrap_or o 0) c.in-Some.ensures in
    all_tracks (image_at (take c.args.place c.args.journal.now.events) c.args.volume) c.loop-track.into c.loop-track.track (unwrap_or (h.tracks c.args.volume) 0)
    (omega arith) (omega arith) c.loop-track.invariant
