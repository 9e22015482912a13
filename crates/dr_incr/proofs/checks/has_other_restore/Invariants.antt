use Rattle.std.proofs.Common.{◌≡◌, ◌&&◌, ◌||◌, not, nat_eq}
use Rattle.std.specs.List.{list_any}
use Rattle.dr_model.specs.Entries.{copies_from}
use Rattle.dr_volume.specs.View.{volume_seen}
use Rattle.dr_flash.specs.Standing.{targets_in}
use Rattle.dr_incr.proofs.TargetLemmas.{any_from}
use Rattle.dr_incr.proofs.checks.has_other_restore.Given as goal

abbrev pub invariant-loop-place : goal.invariant-loop-place
invariant-loop-place g l =
    any_from (λ u. not (nat_eq u l.t.0) && ((volume_seen (g.P.Plant.state l.plant) l.config u).fields.revertible || (volume_seen (g.P.Plant.state l.plant) l.config u).fields.reversing)) (λ u. copies_from l.s.0 (volume_seen (g.P.Plant.state l.plant) l.config u).fields) l.config l.place
    ≡ list_any (λ u. not (nat_eq u l.t.0) && ((volume_seen (g.P.Plant.state l.plant) l.config u).fields.revertible || (volume_seen (g.P.Plant.state l.plant) l.config u).fields.reversing)) (targets_in (g.P.Plant.state l.plant) l.config l.s.0)
