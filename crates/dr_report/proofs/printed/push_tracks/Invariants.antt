use Rattle.std.proofs.Common.{◌≡◌, ◌++◌}
use Rattle.std.specs.List.{flat_map, range_with_len}
use Rattle.std.specs.Option.{option_copied, option_map}
use Rattle.dr_model.specs.Offline.{bytes_line}
use Rattle.dr_model.specs.PlantImage.{ended}
use Rattle.dr_model.specs.Text.{trimmed}
use Rattle.dr_report.specs.Known.{known, shown_track}
use Rattle.dr_report.proofs.printed.push_tracks.Given as goal

abbrev pub invariant-loop-t : goal.invariant-loop-t
invariant-loop-t l =
    l.text ≡ l.fn.text ++ ended (flat_map (λ t. bytes_line l.device.volume.volume.0 t (trimmed (shown_track l.reverts (option_map known (option_copied l.source)) (known l.device) t))) (range_with_len 0 l.t))
