use Rattle.dr_laws_recovery.proofs.NoSession.{no-session-run}
use Rattle.dr_laws_recovery.proofs.a_session_that_is_gone_gives_nothing.Goals as goal

pub returns : goal.returns
returns c = no-session-run
