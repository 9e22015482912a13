use Rattle.std.proofs.Common.{◌++◌, ◌∷◌, [], arith}
use Rattle.std.proofs.lemmas.List.Elements.{All-push}
use Rattle.dr_image.specs.Shown.{all_shown, bare}
use Rattle.dr_image.specs.Sound.{IsSoundVolume}
use Rattle.dr_image.proofs.SoundLemmas.{bare-sound, either_sound}
use Rattle.dr_image.proofs.image.Image.push_volume.Goals as goal

pub invariant_of-self : goal.invariant_of-self
invariant_of-self c =
    let vs = all_shown c.self.inside.volumes.items in
    either_sound c.push_held.result (all_shown c.push_held.new.volumes.items) (vs ++ bare c.args.v ∷ []) vs c.push_held.ensures.ok c.push_held.ensures.err
    (All-push IsSoundVolume vs (bare c.args.v) c.self.invariant (bare-sound c.args.v.volume.0 c.args.v.server c.args.v.tracks (omega arith) (omega arith) (omega arith))) c.self.invariant
