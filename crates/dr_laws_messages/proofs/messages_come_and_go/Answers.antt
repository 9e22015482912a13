use Rattle.dr_laws_messages.proofs.Messages.{flights-sent, flights-replied, flights-dropped}
use Rattle.dr_laws_messages.proofs.messages_come_and_go.Goals as goal

pub returns-clause-sent : goal.returns-clause-sent
returns-clause-sent c = flights-sent

pub returns-clause-replied : goal.returns-clause-replied
returns-clause-replied c = flights-replied

pub returns-clause-lost : goal.returns-clause-lost
returns-clause-lost c = flights-dropped
