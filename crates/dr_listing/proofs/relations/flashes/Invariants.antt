use Rattle.std.proofs.Common.{◌≡◌, ◌≤◌, ◌+◌, ◌++◌, filter, map, take}
use Rattle.dr_model.specs.Listings.{flash_line, is_flash_of}
use Rattle.dr_volume.specs.View.{ids_of, volume_seen}
use Rattle.dr_listing.proofs.relations.flashes.Given as goal

abbrev pub invariant-loop-place : goal.invariant-loop-place
invariant-loop-place g l = record {
  told : l.journal.events ≡ l.fn.journal.events ++ map (λ u. flash_line l.line u (volume_seen (g.P.Plant.state l.plant) l.config u).fields) (filter (λ u. is_flash_of l.v.0 u (volume_seen (g.P.Plant.state l.plant) l.config u).fields) (take l.place (ids_of l.config.volumes)));
  left : l.fn.journal.spare ≤ l.journal.spare + l.place;
}
