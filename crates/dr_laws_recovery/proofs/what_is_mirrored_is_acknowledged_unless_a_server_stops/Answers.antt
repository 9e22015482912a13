use Rattle.dr_laws_recovery.proofs.Stored.{stored-run}
use Rattle.dr_laws_recovery.proofs.what_is_mirrored_is_acknowledged_unless_a_server_stops.Goals as goal

pub returns : goal.returns
returns c = stored-run
