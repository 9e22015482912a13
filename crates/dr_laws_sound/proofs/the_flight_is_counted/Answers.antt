use Rattle.dr_laws_sound.proofs.FlightCounts.{counted-run, counted-task, counted-moments}
use Rattle.dr_laws_sound.proofs.the_flight_is_counted.Goals as goal

pub returns-clause-runs : goal.returns-clause-runs
returns-clause-runs c = counted-run

pub returns-clause-step : goal.returns-clause-step
returns-clause-step c = counted-task

pub returns-clause-plan : goal.returns-clause-plan
returns-clause-plan c = counted-moments
