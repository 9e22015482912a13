use Rattle.std.proofs.Common.{◌≤◌, subst}
use Rattle.std.specs.Prelude.{IfSome}
use Rattle.dr_volume.proofs.VolumeLaws.{tracks_some, lies_on}
use Rattle.dr_volume.proofs.place.find.Goals as goal

pub unwrap-requires-2 : goal.unwrap-requires-2
unwrap-requires-2 c = tracks_some c.args.config.now c.args.v.0 c.device_of.result c.unwrap.result c.tracks_of.result c.device_of.ensures.place c.unwrap.ensures c.tracks_of.ensures.value

pub returns : goal.returns
returns c =
    let few : c.unwrap-2.result ≤ 256 = subst (λ o. IfSome o (λ n. n ≤ 256)) c.unwrap-2.ensures c.tracks_of.ensures.most in
    lies_on c.args.config.now c.args.v.0 c.unwrap-2.result c.device_of.result c.unwrap.result c.tracks_of.result c.device_of.ensures.place c.unwrap.ensures c.tracks_of.ensures.value c.unwrap-2.ensures few
