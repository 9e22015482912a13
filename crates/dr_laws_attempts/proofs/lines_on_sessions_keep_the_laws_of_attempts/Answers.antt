use Rattle.dr_laws_attempts.proofs.Lines.{joins-first, leaves-first, mirrors-first, pauses-first, unmirrors-first, aborts-first, adds-last, expels-last, exchanges-last}
use Rattle.dr_laws_attempts.proofs.lines_on_sessions_keep_the_laws_of_attempts.Goals as goal

pub returns-clause-joins : goal.returns-clause-joins
returns-clause-joins c = λ k dev l s groups law. joins-first k groups law dev l s

pub returns-clause-leaves : goal.returns-clause-leaves
returns-clause-leaves c = λ k dev l s groups law. leaves-first k groups law dev l s

pub returns-clause-mirrors : goal.returns-clause-mirrors
returns-clause-mirrors c = λ k dev l s groups law. mirrors-first k groups law dev l s

pub returns-clause-pauses : goal.returns-clause-pauses
returns-clause-pauses c = λ k dev l s on groups law. pauses-first k groups law dev l s on

pub returns-clause-unmirrors : goal.returns-clause-unmirrors
returns-clause-unmirrors c = λ k dev l s groups law. unmirrors-first k groups law dev l s

pub returns-clause-aborts : goal.returns-clause-aborts
returns-clause-aborts c = λ k s groups law. aborts-first k groups law s

pub returns-clause-adds : goal.returns-clause-adds
returns-clause-adds c = adds-last

pub returns-clause-expels : goal.returns-clause-expels
returns-clause-expels c = expels-last

pub returns-clause-exchanges : goal.returns-clause-exchanges
returns-clause-exchanges c = exchanges-last
