use Rattle.dr_laws_sound.proofs.Places.{lone-run, lone-moments}
use Rattle.dr_laws_sound.proofs.sessions_are_lone.Goals as goal

pub returns-clause-runs : goal.returns-clause-runs
returns-clause-runs c = lone-run

pub returns-clause-moments : goal.returns-clause-moments
returns-clause-moments c = lone-moments
