use Rattle.std.proofs.Common.{refl}
use Rattle.dr_ctl.specs.Changes.{next_order, next_reply}
use Rattle.dr_ctl.proofs.Stays.{found-next, stays-found, found-no-more, none-of-session}
use Rattle.dr_ctl.proofs.laws.a_message_stays_until_it_is_lost.Goals as goal

pub returns-clause-sent : goal.returns-clause-sent
returns-clause-sent c = λ f s server o n. found-next f (next_order s server o f) refl n

pub returns-clause-answered : goal.returns-clause-answered
returns-clause-answered c = λ f m r n. found-next f (next_reply m r f) refl n

pub returns-clause-stays : goal.returns-clause-stays
returns-clause-stays c = stays-found

pub returns-clause-lost : goal.returns-clause-lost
returns-clause-lost c = found-no-more

pub returns-clause-forgotten : goal.returns-clause-forgotten
returns-clause-forgotten c = none-of-session
