use Rattle.dr_laws_commits.proofs.Commits.{commits-run}
use Rattle.dr_laws_commits.proofs.commits_are_of_flashed_members.Goals as goal

pub returns : goal.returns
returns c = commits-run
