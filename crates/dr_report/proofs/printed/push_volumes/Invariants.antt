use Rattle.std.proofs.Common.{◌≡◌, ◌++◌, drop}
use Rattle.std.specs.List.{flat_map}
use Rattle.dr_model.specs.PlantImage.{ended}
use Rattle.dr_report.specs.Known.{all_known}
use Rattle.dr_report.specs.Report.{lines_among, remaining}
use Rattle.dr_report.proofs.printed.push_volumes.Given as goal

abbrev pub invariant-loop-device : goal.invariant-loop-device
invariant-loop-device l =
    l.text ++ ended (flat_map (lines_among l.reverts (all_known l.devices)) (remaining l.session.0 l.reverts (all_known (drop l.device-index l.devices))))
    ≡ l.fn.text ++ ended (flat_map (lines_among l.reverts (all_known l.devices)) (remaining l.session.0 l.reverts (all_known l.devices)))
