use Rattle.std.proofs.lemmas.Result.{err_from_is_err_and}
use Rattle.dr_sweep.specs.Seen.{run_seen}
use Rattle.dr_sweep.proofs.PointLemmas.{lose-fails, recover-fails, settles}
use Rattle.dr_sweep.proofs.point.settle.Goals as goal

pub returns-in_err-lose-clause-fails : goal.returns-in_err-lose-clause-fails
returns-in_err-lose-clause-fails c =
    let r2 = run_seen c.args.run.now in
    let r3 = run_seen c.lose.new.run in
    let out = err_from_is_err_and c.from_residual.result c.from_residual.ensures.1 in
    rw (out.1, out.2) (λ began ls stops steps ran is. lose-fails began ls stops c.args.plan.now.recovery c.args.servers.now r2 r3 steps c.args.text.now ran is c.in_err-lose.field-0.0 c.in_err-lose.ensures.fails)

pub returns-in-Ok-clause-goes : goal.returns-in-Ok-clause-goes
returns-in-Ok-clause-goes c began ls stops steps ran is =
    settles began ls stops c.args.plan.now.recovery c.args.servers.now (run_seen c.args.run.now) (run_seen c.lose.new.run) steps c.args.text.now ran is c.in_ok-lose.ensures.goes (run_seen c.recover.new.self)
    c.event_count-begin.result c.in-Ok.members.items c.event_count-begin.ensures c.in_ok-lose.ensures.off c.in-Ok.ensures.goes

pub returns-in-Err-clause-fails : goal.returns-in-Err-clause-fails
returns-in-Err-clause-fails c began ls stops steps ran is =
    recover-fails began ls stops c.args.plan.now.recovery c.args.servers.now (run_seen c.args.run.now) (run_seen c.lose.new.run) steps c.args.text.now ran is c.in_ok-lose.ensures.goes (run_seen c.recover.new.self)
    c.in-Err.fault c.in-Err.ensures.fails
