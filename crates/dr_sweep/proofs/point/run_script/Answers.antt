use Rattle.dr_sweep.proofs.ComesLemmas.{whole-run}
use Rattle.dr_sweep.proofs.point.run_script.Goals as goal

pub returns-in-Done-clause-runs : goal.returns-in-Done-clause-runs
returns-in-Done-clause-runs c = whole-run c.args.script.now c.try_script.result c.try_script.new.journal.events _ _ c.try_script.ensures c.new-plant.ensures.fresh c.in-Done.is
