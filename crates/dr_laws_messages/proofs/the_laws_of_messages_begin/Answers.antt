use Rattle.dr_laws_messages.proofs.Still.{flights-none}
use Rattle.dr_laws_messages.proofs.Moves.{flights-still, flights-defined, flights-started}
use Rattle.dr_laws_messages.proofs.the_laws_of_messages_begin.Goals as goal

pub returns-clause-none : goal.returns-clause-none
returns-clause-none c = flights-none

pub returns-clause-still : goal.returns-clause-still
returns-clause-still c = flights-still

pub returns-clause-defined : goal.returns-clause-defined
returns-clause-defined c = flights-defined

pub returns-clause-started : goal.returns-clause-started
returns-clause-started c = flights-started
