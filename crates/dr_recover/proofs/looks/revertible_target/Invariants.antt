use Rattle.std.proofs.Common.{◌≡◌}
use Rattle.dr_model.specs.Entries.{copies_from, is_revertible}
use Rattle.dr_volume.specs.View.{volume_seen}
use Rattle.dr_recover.proofs.LookLemmas.{found_from}
use Rattle.dr_recover.proofs.looks.revertible_target.Given as goal

abbrev pub invariant-loop-place : goal.invariant-loop-place
invariant-loop-place g l = record {
  -- none so far is one
  left : found_from (λ u. is_revertible (volume_seen (g.P.Plant.state l.plant) l.config u).fields) (λ u. copies_from l.b.0 (volume_seen (g.P.Plant.state l.plant) l.config u).fields) l.config l.place
      ≡ found_from (λ u. is_revertible (volume_seen (g.P.Plant.state l.plant) l.config u).fields) (λ u. copies_from l.b.0 (volume_seen (g.P.Plant.state l.plant) l.config u).fields) l.config 0;
}
