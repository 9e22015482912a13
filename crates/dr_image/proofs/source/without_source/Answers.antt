use Rattle.std.proofs.Common.{sym, ◌∙◌, not}
use Rattle.dr_model.specs.PlantImage.{Volume, has_source}
use Rattle.dr_image.specs.Shown.{shown, all_shown}
use Rattle.dr_image.proofs.HeldLemmas.{position-map}
use Rattle.dr_image.proofs.source.without_source.Goals as goal

pub returns-clause-value : goal.returns-clause-value
returns-clause-value c =
    let hs = c.args.volumes.now in
    c.first_without.ensures.value ∙ sym (position-map (λ (v : Volume). not (has_source (all_shown hs) v)) shown hs)
