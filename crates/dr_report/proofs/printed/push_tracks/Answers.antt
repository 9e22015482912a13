use Rattle.std.proofs.Common.{◌++◌, ◌∙◌}
use Rattle.std.specs.Option.{option_copied, option_map}
use Rattle.dr_model.specs.Offline.{bytes_line}
use Rattle.dr_model.specs.PlantImage.{ended}
use Rattle.dr_model.specs.Text.{trimmed}
use Rattle.dr_report.specs.Known.{known, shown_track}
use Rattle.dr_report.proofs.Lines.{lines-more}
use Rattle.dr_report.proofs.printed.push_tracks.Goals as goal

pub loop-t-preserved : goal.loop-t-preserved
loop-t-preserved c =
    let v = c.args.device.now.volume.volume.0 in
    let t = c.loop-t.t in
    c.in_ok-push_track.ensures ∙ (λ i. c.loop-t.invariant i ++ ended (bytes_line v t (trimmed (c.shown_track-bytes.ensures i))))
    ∙ lines-more c.args.text.now (λ u. bytes_line v u (trimmed (shown_track c.args.reverts (option_map known (option_copied c.args.source)) (known c.args.device.now) u))) t
