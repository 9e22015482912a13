use Rattle.dr_laws_sound.proofs.Steps.{sound-run}
use Rattle.dr_model.specs.Runs.{run}
use Rattle.dr_laws_progress.proofs.HomeRuns.{goes-home}
use Rattle.dr_laws_progress.proofs.HomeMembers.{member-goes-home, primary-yields, refuses-cascaded}
use Rattle.dr_laws_progress.proofs.the_way_home_is_answered_ok.Goals as goal

pub returns-clause-pairs : goal.returns-clause-pairs
returns-clause-pairs c = goes-home

pub returns-clause-members : goal.returns-clause-members
returns-clause-members c = member-goes-home

pub returns-clause-yields : goal.returns-clause-yields
returns-clause-yields c tasks = primary-yields (run tasks) (sound-run tasks)

pub returns-clause-cascaded : goal.returns-clause-cascaded
returns-clause-cascaded c = refuses-cascaded
