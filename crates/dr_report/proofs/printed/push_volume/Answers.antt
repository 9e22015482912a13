use Rattle.std.proofs.Common.{◌++◌, [], ap, sym, ◌∙◌, nat_eq, if◌then◌else◌}
use Rattle.std.specs.Option.{option_map}
use Rattle.std.proofs.lemmas.Result.{on_ok_weaker}
use Rattle.dr_model.specs.PlantImage.{ended}
use Rattle.dr_report.specs.Known.{Known, all_known, known}
use Rattle.dr_report.specs.Report.{known_lines, lines_among}
use Rattle.dr_report.proofs.Chosen.{first-known}
use Rattle.dr_report.proofs.printed.push_volume.Goals as goal

pub returns : goal.returns
returns c =
    let text = c.args.text.now in
    let ds = c.args.devices.now in
    let d = c.args.device.now in
    on_ok_weaker c.push_tracks.result
    (λ lines.
    lines
    ∙ ap (λ o. text ++ ended (known_lines c.args.reverts o (known d)))
    (ap (option_map known) c.find_device-source.ensures ∙ sym (first-known (λ (k : Known). nat_eq k.volume d.fields.source.0) known ds))
    ∙ ap (λ b. text ++ ended (if b then lines_among c.args.reverts (all_known ds) (known d) else [])) (sym c.if-not-remains.false ∙ c.remains.ensures))
    c.push_tracks.ensures
