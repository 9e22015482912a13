use Rattle.std.proofs.Common.{◌≡◌, ◌≤◌, ◌+◌, ◌++◌, map, take}
use Rattle.dr_plant.specs.State.{PlantState}
use Rattle.dr_model.specs.declared.event.Event.TheVariants.{ImageVolume}
use Rattle.dr_volume.specs.View.{ids_of, volume_seen}
use Rattle.dr_listing.proofs.devices.push_volumes.Given as goal

abbrev pub invariant-loop-place : goal.invariant-loop-place
invariant-loop-place l = record {
  told : (s : PlantState) → l.journal.events ≡ l.fn.journal.events ++ map (λ v. ImageVolume v (volume_seen s l.config v).server (volume_seen s l.config v).tracks) (take l.place (ids_of l.config.volumes));
  left : l.fn.journal.spare ≤ l.journal.spare + l.place;
}
