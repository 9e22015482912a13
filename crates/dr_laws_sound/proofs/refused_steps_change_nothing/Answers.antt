use Rattle.dr_laws_sound.proofs.RefusedRuns.{refused-step, refused-run}
use Rattle.dr_laws_sound.proofs.refused_steps_change_nothing.Goals as goal

pub returns-clause-step : goal.returns-clause-step
returns-clause-step c = refused-step

pub returns-clause-run : goal.returns-clause-run
returns-clause-run c = refused-run
