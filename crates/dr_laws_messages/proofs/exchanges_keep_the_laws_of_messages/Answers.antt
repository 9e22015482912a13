use Rattle.dr_laws_messages.proofs.Replies.{flights-answered, flights-heard}
use Rattle.dr_laws_messages.proofs.exchanges_keep_the_laws_of_messages.Goals as goal

pub returns-clause-answered : goal.returns-clause-answered
returns-clause-answered c = flights-answered

pub returns-clause-heard : goal.returns-clause-heard
returns-clause-heard c = flights-heard
