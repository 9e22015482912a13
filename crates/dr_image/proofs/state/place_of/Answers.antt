use Rattle.std.proofs.Common.{ap, sym, ◌∙◌, nat_eq}
use Rattle.std.specs.List.{position}
use Rattle.dr_model.specs.PlantImage.{Volume}
use Rattle.dr_image.specs.declared.held.Held.{Held}
use Rattle.dr_image.specs.Shown.{shown}
use Rattle.dr_image.proofs.HeldLemmas.{position-map}
use Rattle.dr_image.proofs.state.place_of.Goals as goal

pub returns-clause-value : goal.returns-clause-value
returns-clause-value c =
    let v = c.args.volume.0 in
    c.first_of.ensures.value ∙ ap (position (λ (h : Held). nat_eq (shown h).volume v)) c.deref.ensures.value
    ∙ sym (position-map (λ (w : Volume). nat_eq w.volume v) shown c.args.volumes.now.items)
