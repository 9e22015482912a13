use Rattle.std.proofs.Common.{sym, ◌∙◌, ap, [], ◌∷◌}
use Rattle.dr_model.specs.Layout.{without_entry}
use Rattle.dr_volume.proofs.PackedLaws.{one-by-one}
use Rattle.dr_volume.proofs.entries.without_track.Goals as goal

pub returns : goal.returns
returns c =
    (λ i. c.less.ensures i ∷ c.less-2.ensures i ∷ c.less-3.ensures i ∷ c.less-4.ensures i ∷ c.less-5.ensures i ∷ c.less-6.ensures i ∷ c.less-7.ensures i ∷ c.less-8.ensures i ∷ [])
    ∙ sym (ap (λ es. without_entry es c.args.t) (one-by-one c.args.entries.now c.told-entries))
