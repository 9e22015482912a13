use Rattle.std.proofs.Common.{◌≡◌}
use Rattle.dr_admin.specs.Targets.{mirrored_from}
use Rattle.dr_admin.proofs.targets.next_mirrored.Given as goal

abbrev pub invariant-loop-place : goal.invariant-loop-place
invariant-loop-place g l = mirrored_from (g.P.Plant.state l.plant) l.config l.b.0 l.from ≡ mirrored_from (g.P.Plant.state l.plant) l.config l.b.0 l.place
