use Rattle.dr_laws_sound.proofs.Restores.{calm-run, calm-reads}
use Rattle.dr_laws_sound.proofs.restores_are_calm.Goals as goal

pub returns-clause-runs : goal.returns-clause-runs
returns-clause-runs c = calm-run

pub returns-clause-reads : goal.returns-clause-reads
returns-clause-reads c = calm-reads
