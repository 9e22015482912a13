use Rattle.dr_laws_progress.proofs.PairRuns.{has-pair-ways, pair-ways-run}
use Rattle.dr_laws_progress.proofs.the_pair_of_each_member_stands_in_one_of_three_ways.Goals as goal

pub returns-clause-moments : goal.returns-clause-moments
returns-clause-moments c = has-pair-ways

pub returns-clause-runs : goal.returns-clause-runs
returns-clause-runs c = pair-ways-run
