use Rattle.dr_sweep.proofs.TurnLemmas.{drain-written}
use Rattle.dr_sweep.proofs.turns.drain_of.Goals as goal

pub returns-clause-written : goal.returns-clause-written
returns-clause-written c = drain-written c.args.volume c.ranges.volume.fits
