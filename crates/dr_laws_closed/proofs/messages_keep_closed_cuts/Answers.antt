use Rattle.dr_laws_closed.proofs.Flown.{closing-flown, eases-fewer, eases-sent, eases-held, eases-answered}
use Rattle.dr_laws_closed.proofs.messages_keep_closed_cuts.Goals as goal

pub returns-clause-kept : goal.returns-clause-kept
returns-clause-kept c = closing-flown

pub returns-clause-fewer : goal.returns-clause-fewer
returns-clause-fewer c = eases-fewer

pub returns-clause-sent : goal.returns-clause-sent
returns-clause-sent c = λ k x r server o groups. eases-sent k.sessions k.flight x r server o groups.once

pub returns-clause-held : goal.returns-clause-held
returns-clause-held c = eases-held

pub returns-clause-answered : goal.returns-clause-answered
returns-clause-answered c = eases-answered
