use Rattle.std.proofs.Common.{take}
use Rattle.dr_model.specs.Histories.{histories}
use Rattle.dr_lost.specs.Held.{StandsFor}
use Rattle.dr_lost.proofs.holdings.Holdings.hear_between.Given as goal

abbrev pub invariant-loop-place : goal.invariant-loop-place
invariant-loop-place l = StandsFor l.initial.self (histories (take l.from l.journal.events)) → StandsFor l.self (histories (take l.place l.journal.events))
