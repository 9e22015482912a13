use Rattle.dr_sweep.proofs.TurnLemmas.{exchange-written}
use Rattle.dr_sweep.proofs.turns.exchange_of.Goals as goal

pub returns-clause-written : goal.returns-clause-written
returns-clause-written c = exchange-written c.args.session c.args.server c.requires.session c.ranges.session.fits c.requires.fits
