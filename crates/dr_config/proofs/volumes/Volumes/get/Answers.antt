use Rattle.std.proofs.Common.{◌∙◌, ap, sym, eqb, arith, slice_get}
use Rattle.std.specs.List.{find}
use Rattle.dr_config.specs.declared.entries.VolumeEntry.{VolumeEntry}
use Rattle.dr_config.specs.Volumes.{VolumeList}
use Rattle.dr_config.proofs.VolumeLaws.{entry-by-place}
use Rattle.dr_config.proofs.volumes.Volumes.get.Goals as goal

pub returns : goal.returns
returns c =
    let low = c.ranges.id.fits in
    let place = c.place_by.ensures ∙ c.self.invariant.finds c.args.id (omega (arith, low)) in
    c.at.ensures
    ∙ (ap (λ (l : VolumeList). slice_get l.entries c.place_by.result) (sym c.self.view_is)
    ∙ (entry-by-place (λ (e : VolumeEntry). eqb e.id c.args.id) c.self.inside.entries.items c.place_by.result c.self.invariant.few place
    ∙ ap (λ (l : VolumeList). find (λ (e : VolumeEntry). eqb e.id c.args.id) l.entries) c.self.view_is))
