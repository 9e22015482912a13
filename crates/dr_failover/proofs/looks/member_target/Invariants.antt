use Rattle.std.proofs.Common.{◌≡◌, ◌&&◌, drop}
use Rattle.std.specs.List.{find}
use Rattle.dr_model.specs.Entries.{copies_from}
use Rattle.dr_volume.specs.View.{volume_seen, ids_of}
use Rattle.dr_failover.proofs.looks.member_target.Given as goal

abbrev pub invariant-loop-place : goal.invariant-loop-place
invariant-loop-place g l = record {
  -- none so far is one
  left : find (λ u. copies_from l.y.0 (volume_seen (g.P.Plant.state l.plant) l.config u).fields && (volume_seen (g.P.Plant.state l.plant) l.config u).fields.member) (ids_of (drop l.place l.config.volumes))
      ≡ find (λ u. copies_from l.y.0 (volume_seen (g.P.Plant.state l.plant) l.config u).fields && (volume_seen (g.P.Plant.state l.plant) l.config u).fields.member) (ids_of l.config.volumes);
}
