use Rattle.dr_flash.proofs.KeptAllLemmas.{KeptBelow}
use Rattle.dr_flash.proofs.keeping.keep_all.Given as goal

abbrev pub invariant-loop-place : goal.invariant-loop-place
invariant-loop-place g l = KeptBelow (g.P.Plant.state l.fn.plant) (g.P.Plant.state l.plant) l.config l.fn.journal l.journal l.v.0 l.t l.place
