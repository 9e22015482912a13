use Rattle.dr_sweep.proofs.CompareLemmas.{apart-fails, calm-fails, rows-fail}
use Rattle.dr_sweep.proofs.comparing.swept.Goals as goal

pub returns-in-Err-clause-fails : goal.returns-in-Err-clause-fails
returns-in-Err-clause-fails g c = apart-fails c.args.plan.now c.in-Err.fault c.in-Err.ensures.fails

pub returns-in-Err-calm_run-clause-fails : goal.returns-in-Err-calm_run-clause-fails
returns-in-Err-calm_run-clause-fails g c = calm-fails c.args.plan.now c.in-Ok.tried c.in-Ok.ensures.apart c.in-Err-calm_run.fault c.in-Err-calm_run.ensures.fails

pub returns-in-Err-all_rows-clause-fails : goal.returns-in-Err-all_rows-clause-fails
returns-in-Err-all_rows-clause-fails g c = rows-fail c.args.plan.now c.in-Ok.tried c.in-Ok.ensures.apart c.in-Err-all_rows.fault c.in-Err-all_rows.ensures.fails
