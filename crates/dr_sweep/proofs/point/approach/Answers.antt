use Rattle.std.proofs.Common.{subst}
use Rattle.std.proofs.lemmas.Result.{err_from_is_err_and}
use Rattle.dr_sweep.specs.Comes.{Carries, Fails}
use Rattle.dr_sweep.specs.Seen.{run_seen}
use Rattle.dr_sweep.proofs.PointLemmas.{front-fails, strike-fails, approaches-so}
use Rattle.dr_sweep.proofs.point.approach.Goals as goal

pub returns-in_err-phases-clause-fails : goal.returns-in_err-phases-clause-fails
returns-in_err-phases-clause-fails c =
    let r0 = run_seen c.args.run.now in
    let r1 = run_seen c.carry_to.new.self in
    let x = c.args.pieces.now in
    let out = err_from_is_err_and c.from_residual.result c.from_residual.ensures.1 in
    rw (out.1, out.2) (λ p are texts. front-fails c.args.plan.now c.requires.sweep c.args.point p are r0.plant c.requires.fresh x.front x.strike x.stops texts r0 r1 c.requires.begins c.in_err-phases.field-0.0
    (subst (λ t. Fails r0 r1 t c.in_err-phases.field-0.0) c.front.ensures c.in_err-phases.ensures.fails))

pub returns-in-Ok-clause-comes : goal.returns-in-Ok-clause-comes
returns-in-Ok-clause-comes c p are texts =
    let r0 = run_seen c.args.run.now in
    let r1 = run_seen c.carry_to.new.self in
    let r2 = run_seen c.strike-2.new.run in
    let x = c.args.pieces.now in
    let goes = subst (Carries r0 r1) c.front.ensures c.in_ok-phases.ensures.goes in
    let goes2 = subst (Carries r1 r2) c.strike.ensures c.in-Ok.ensures.goes in
    approaches-so c.args.plan.now c.requires.sweep c.args.point p are r0.plant c.requires.fresh x.front x.strike x.stops texts r0 r1 c.requires.begins goes r2 goes2 c.in-Ok.stop c.in_ok-phases.phases.items c.in-Ok.ensures.stopped c.in_ok-phases.ensures.phases

pub returns-in-Err-clause-fails : goal.returns-in-Err-clause-fails
returns-in-Err-clause-fails c p are texts =
    let r0 = run_seen c.args.run.now in
    let r1 = run_seen c.carry_to.new.self in
    let r2 = run_seen c.strike-2.new.run in
    let x = c.args.pieces.now in
    let goes = subst (Carries r0 r1) c.front.ensures c.in_ok-phases.ensures.goes in
    strike-fails c.args.plan.now c.requires.sweep c.args.point p are r0.plant c.requires.fresh x.front x.strike x.stops texts r0 r1 c.requires.begins goes r2 c.in-Err.fault
    (subst (λ t. Fails r1 r2 t c.in-Err.fault) c.strike.ensures c.in-Err.ensures.fails)
