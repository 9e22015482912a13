use Rattle.dr_laws_sound.proofs.Journal.{after_task-longer}
use Rattle.dr_laws_sound.proofs.Limits.{journal-fits}
use Rattle.dr_laws_sound.proofs.journals_fit.Goals as goal

pub returns-clause-grows : goal.returns-clause-grows
returns-clause-grows c = after_task-longer

pub returns-clause-fits : goal.returns-clause-fits
returns-clause-fits c = journal-fits
