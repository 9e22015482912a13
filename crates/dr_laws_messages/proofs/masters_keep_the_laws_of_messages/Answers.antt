use Rattle.dr_laws_messages.proofs.Turns.{flights-mirrored, flights-unmirrored, flights-paused, flights-aborted, flights-lost, flights-begun}
use Rattle.dr_laws_messages.proofs.masters_keep_the_laws_of_messages.Goals as goal

pub returns-clause-appointed : goal.returns-clause-appointed
returns-clause-appointed c k s server x groups law flights = flights-mirrored k groups law flights s server x

pub returns-clause-unmirrored : goal.returns-clause-unmirrored
returns-clause-unmirrored c k s x groups law flights = flights-unmirrored k groups law flights s x

pub returns-clause-paused : goal.returns-clause-paused
returns-clause-paused c k s on groups law flights = flights-paused k groups law flights s on

pub returns-clause-aborted : goal.returns-clause-aborted
returns-clause-aborted c k s x groups law flights = flights-aborted k groups law flights s x

pub returns-clause-lost : goal.returns-clause-lost
returns-clause-lost c k before now groups law flights = flights-lost k groups law flights before now

pub returns-clause-begun : goal.returns-clause-begun
returns-clause-begun c k s x r groups law flights = flights-begun k groups law flights s x r
