use Rattle.dr_top.proofs.OpenLemmas.{fresh-run}
use Rattle.dr_top.proofs.open_run.OpenRun.new.Goals as goal

pub returns-clause-begins : goal.returns-clause-begins
returns-clause-begins c s fresh = fresh-run s fresh c.new.result c.new-2.result c.new.ensures.empty c.new-2.ensures.host c.new-2.ensures.sessions c.new-2.ensures.flight
