use Rattle.std.proofs.Common.{take}
use Rattle.dr_sweep.specs.Losses.{AreLosses}
use Rattle.dr_sweep.proofs.losses.losses_between.Given as goal

abbrev pub invariant-loop-u : goal.invariant-loop-u
invariant-loop-u l = AreLosses l.journal.events l.begin (take l.u-index l.uses) l.losses.items
