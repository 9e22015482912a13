use Rattle.dr_laws_return.proofs.DrainsExample as example
use Rattle.dr_laws_return.proofs.an_example_of_drains.Goals as goal

pub returns-clause-sends : goal.returns-clause-sends
returns-clause-sends c = example.sends

pub returns-clause-again : goal.returns-clause-again
returns-clause-again c = example.again

pub returns-clause-duplex : goal.returns-clause-duplex
returns-clause-duplex c = example.duplex

pub returns-clause-flashed : goal.returns-clause-flashed
returns-clause-flashed c = example.flashed

pub returns-clause-none : goal.returns-clause-none
returns-clause-none c = example.none
