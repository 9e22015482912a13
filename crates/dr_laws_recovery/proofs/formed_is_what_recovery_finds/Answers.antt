use Rattle.dr_laws_recovery.proofs.GroupsFound.{found-run}
use Rattle.dr_laws_recovery.proofs.RunsFormed.{formed-run}
use Rattle.dr_laws_recovery.proofs.formed_is_what_recovery_finds.Goals as goal

pub returns-clause-runs : goal.returns-clause-runs
returns-clause-runs c = formed-run

pub returns-clause-recoveries : goal.returns-clause-recoveries
returns-clause-recoveries c = found-run
