use Rattle.dr_laws_recovery.proofs.TakenOver.{leaves-exchange, leaves-delivery, leaves-turn}
use Rattle.dr_laws_recovery.proofs.TakenKeeps.{exchange-keeps, delivery-keeps}
use Rattle.dr_laws_recovery.proofs.TakenFirst.{takes-first}
use Rattle.dr_laws_recovery.proofs.what_is_taken_over_is_left.Goals as goal

pub returns-clause-exchanges : goal.returns-clause-exchanges
returns-clause-exchanges c = λ w s name reply x m sound listed here apart. leaves-exchange w sound x m listed here apart s name reply

pub returns-clause-deliveries : goal.returns-clause-deliveries
returns-clause-deliveries c = λ w n x m sound listed here apart. leaves-delivery w sound x m listed here apart n

pub returns-clause-turns : goal.returns-clause-turns
returns-clause-turns c = λ w s server x m sound listed here apart. leaves-turn w sound x m listed here apart s server

pub returns-clause-keeps : goal.returns-clause-keeps
returns-clause-keeps c = λ w s name reply x sound listed taken. exchange-keeps w sound x listed taken s name reply

pub returns-clause-keeps_delivered : goal.returns-clause-keeps_delivered
returns-clause-keeps_delivered c = λ w n x sound listed taken. delivery-keeps w sound x listed taken n

pub returns-clause-recovers : goal.returns-clause-recovers
returns-clause-recovers c = λ w s x sound found. takes-first w sound s x found
