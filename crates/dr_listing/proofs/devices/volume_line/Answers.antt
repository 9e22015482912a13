use Rattle.std.proofs.Common.{◌≡◌}
use Rattle.dr_config.proofs.Lookups.{server-found}
use Rattle.dr_model.specs.declared.event.Event.TheVariants.{ImageVolume}
use Rattle.dr_volume.specs.View.{volume_seen}
use Rattle.dr_listing.proofs.ImageLemmas.{server-seen, tracks-found, tracks-seen}
use Rattle.dr_listing.proofs.devices.volume_line.Goals as goal

pub unwrap-requires : goal.unwrap-requires
unwrap-requires c = server-found c.args.config.now c.args.v.0 c.server_of.result c.requires c.server_of.ensures.value

pub unwrap-requires-2 : goal.unwrap-requires-2
unwrap-requires-2 c = tracks-found c.args.config.now c.args.v.0 c.tracks_of.result c.requires c.tracks_of.ensures.value

pub returns : goal.returns
returns c s =
    let t = c.args.config.now in
    let v = c.args.v.0 in
    let server : c.unwrap.result.0 ≡ (volume_seen s t v).server = server-seen s t v c.server_of.result c.unwrap.result c.requires c.server_of.ensures.value c.unwrap.ensures in
    let tracks : c.unwrap-2.result ≡ (volume_seen s t v).tracks = tracks-seen s t v c.tracks_of.result c.unwrap-2.result c.requires c.tracks_of.ensures.value c.unwrap-2.ensures in
    (λ i. ImageVolume v (server i) (tracks i))
