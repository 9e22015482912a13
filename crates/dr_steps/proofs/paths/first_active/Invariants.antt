use Rattle.std.proofs.Common.{◌≡◌}
use Rattle.dr_steps.proofs.PathLemmas.{first_from, active_in}
use Rattle.dr_steps.proofs.paths.first_active.Given as goal

abbrev pub invariant-loop-place : goal.invariant-loop-place
invariant-loop-place g l =
    first_from (active_in (g.P.Plant.state l.plant) l.config l.src.0 l.tgt.0) l.config l.place ≡ first_from (active_in (g.P.Plant.state l.plant) l.config l.src.0 l.tgt.0) l.config 0
