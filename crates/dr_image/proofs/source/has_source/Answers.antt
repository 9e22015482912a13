use Rattle.std.proofs.Common.{sym, ◌∙◌}
use Rattle.dr_model.specs.PlantImage.{Volume, is_source_of}
use Rattle.dr_image.specs.Shown.{shown, all_shown, bare}
use Rattle.dr_image.proofs.HeldLemmas.{list_any-map}
use Rattle.dr_image.proofs.SourceLemmas.{has_source-some}
use Rattle.dr_image.proofs.source.has_source.Goals as goal

pub returns-in-Some : goal.returns-in-Some
returns-in-Some c =
    let v : Volume = bare c.args.held.now.volume in
    c.any_source.ensures ∙ sym (list_any-map (is_source_of v c.in-Some.source) shown c.args.volumes.now)
    ∙ sym (has_source-some (all_shown c.args.volumes.now) (shown c.args.held.now) c.in-Some.source c.in-Some.ensures)
