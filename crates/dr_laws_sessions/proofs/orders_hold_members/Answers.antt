use Rattle.dr_laws_sessions.proofs.Silent.{holds-of, opens-of}
use Rattle.dr_laws_sessions.proofs.orders_hold_members.Goals as goal

pub returns-clause-holds : goal.returns-clause-holds
returns-clause-holds c = holds-of

pub returns-clause-opens : goal.returns-clause-opens
returns-clause-opens c = opens-of
