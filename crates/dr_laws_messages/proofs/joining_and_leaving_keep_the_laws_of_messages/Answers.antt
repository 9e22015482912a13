use Rattle.dr_laws_messages.proofs.Members.{flights-joined, flights-left}
use Rattle.dr_laws_messages.proofs.joining_and_leaving_keep_the_laws_of_messages.Goals as goal

pub returns-clause-joined : goal.returns-clause-joined
returns-clause-joined c k s l flights groups = flights-joined k flights groups s l

pub returns-clause-left : goal.returns-clause-left
returns-clause-left c k s l x flights groups = flights-left k flights groups s l x
