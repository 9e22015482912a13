use Rattle.std.proofs.Common.{◌≡◌, ◌≤◌, ◌+◌, ◌*◌, ◌++◌, take}
use Rattle.std.specs.Prelude.{All}
use Rattle.std.specs.List.{flat_map}
use Rattle.dr_ids.specs.Sizes.{most_tracks, blocks_of}
use Rattle.dr_model.specs.Listed.{listing_of}
use Rattle.dr_model.specs.Runs.{blocks_told}
use Rattle.dr_volume.specs.View.{Rest, control_seen, ids_of}
use Rattle.dr_listing.specs.Told.{IsReadable}
use Rattle.dr_listing.proofs.devices.push_devices.Given as goal

abbrev pub invariant-loop-place : goal.invariant-loop-place
invariant-loop-place g l = record {
  told : (r : Rest) → l.journal.events ≡ l.fn.journal.events ++ flat_map (λ v. blocks_told (listing_of (control_seen (g.P.Plant.state l.plant) l.config r) (g.P.Plant.state l.plant).block v)) (take l.place (ids_of l.config.volumes));
  readable : All (IsReadable (g.P.Plant.state l.plant) l.config) (take l.place (ids_of l.config.volumes));
  left : l.fn.journal.spare ≤ l.journal.spare + l.place * blocks_of most_tracks;
}
