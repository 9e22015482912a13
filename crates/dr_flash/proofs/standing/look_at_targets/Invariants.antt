use Rattle.std.proofs.Common.{◌≡◌, ◌≤◌, ◌+◌, ◌||◌, length}
use Rattle.std.specs.List.{list_any}
use Rattle.dr_model.specs.Entries.{is_revertible, is_reversing}
use Rattle.dr_volume.specs.View.{volume_seen}
use Rattle.dr_flash.specs.Standing.{targets_in, any_of}
use Rattle.dr_flash.proofs.StandingLemmas.{targets_from}
use Rattle.dr_flash.proofs.standing.look_at_targets.Given as goal

abbrev pub invariant-loop-place : goal.invariant-loop-place
invariant-loop-place g l = record {
  count : l.all.count + length (targets_from (g.P.Plant.state l.plant) l.config l.v.0 l.place) ≡ length (targets_in (g.P.Plant.state l.plant) l.config l.v.0);
  revertible : (l.all.revertible || list_any (λ u. is_revertible (volume_seen (g.P.Plant.state l.plant) l.config u).fields) (targets_from (g.P.Plant.state l.plant) l.config l.v.0 l.place)) ≡ any_of is_revertible (g.P.Plant.state l.plant) l.config l.v.0;
  reversing : (l.all.reversing || list_any (λ u. is_reversing (volume_seen (g.P.Plant.state l.plant) l.config u).fields) (targets_from (g.P.Plant.state l.plant) l.config l.v.0 l.place)) ≡ any_of is_reversing (g.P.Plant.state l.plant) l.config l.v.0;
  few : l.all.count ≤ l.place;
}
