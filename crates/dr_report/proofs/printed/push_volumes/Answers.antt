use Rattle.std.proofs.Common.{◌++◌, ◌+◌, ap, ◌∙◌, drop}
use Rattle.std.specs.List.{flat_map}
use Rattle.dr_model.specs.PlantImage.{ended}
use Rattle.dr_model.specs.Recovery.{remains_in}
use Rattle.dr_report.specs.Known.{Known, all_known, known}
use Rattle.dr_report.specs.Report.{lines_among, remaining}
use Rattle.dr_report.proofs.Chosen.{lines-turn}
use Rattle.dr_report.proofs.printed.push_volumes.Goals as goal

pub loop-device-preserved : goal.loop-device-preserved
loop-device-preserved c =
    let ds = c.args.devices.now in
    let s = c.args.session.0 in
    let reverts = c.args.reverts in
    ap (λ t. t ++ ended (flat_map (lines_among reverts (all_known ds)) (remaining s reverts (all_known (drop (c.loop-device.device-index + 1) ds))))) c.in_ok-push_volume.ensures
    ∙ lines-turn (λ (k : Known). remains_in s reverts k.fields) (lines_among reverts (all_known ds)) known c.loop-device.text ds c.loop-device.device-index c.device-item.result c.loop-device-test.true c.device-item.is
    ∙ c.loop-device.invariant
