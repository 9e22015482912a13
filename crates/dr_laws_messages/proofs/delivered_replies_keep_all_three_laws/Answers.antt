use Rattle.dr_laws_messages.proofs.Taken.{sessions-taken, attempts-taken, flights-taken}
use Rattle.dr_laws_messages.proofs.delivered_replies_keep_all_three_laws.Goals as goal

pub returns-clause-sessions : goal.returns-clause-sessions
returns-clause-sessions c k m reply x r groups law flights = sessions-taken k groups law flights m reply x r

pub returns-clause-attempts : goal.returns-clause-attempts
returns-clause-attempts c k m reply x r groups law flights = attempts-taken k groups law flights m reply x r

pub returns-clause-messages : goal.returns-clause-messages
returns-clause-messages c k m reply x r groups law flights = flights-taken k groups law flights m reply x r
