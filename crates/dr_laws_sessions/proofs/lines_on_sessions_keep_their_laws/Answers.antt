use Rattle.dr_laws_sessions.proofs.PlanTables.{joins-first, leaves-first, mirrors-first, pauses-first, unmirrors-first, aborts-first, adds-last, expels-last, exchanges-last}
use Rattle.dr_laws_sessions.proofs.lines_on_sessions_keep_their_laws.Goals as goal

pub returns-clause-joins : goal.returns-clause-joins
returns-clause-joins c = joins-first

pub returns-clause-leaves : goal.returns-clause-leaves
returns-clause-leaves c = leaves-first

pub returns-clause-mirrors : goal.returns-clause-mirrors
returns-clause-mirrors c = mirrors-first

pub returns-clause-pauses : goal.returns-clause-pauses
returns-clause-pauses c = pauses-first

pub returns-clause-unmirrors : goal.returns-clause-unmirrors
returns-clause-unmirrors c = unmirrors-first

pub returns-clause-aborts : goal.returns-clause-aborts
returns-clause-aborts c = aborts-first

pub returns-clause-adds : goal.returns-clause-adds
returns-clause-adds c = adds-last

pub returns-clause-expels : goal.returns-clause-expels
returns-clause-expels c = expels-last

pub returns-clause-exchanges : goal.returns-clause-exchanges
returns-clause-exchanges c = exchanges-last
