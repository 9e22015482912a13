use Rattle.std.proofs.Common.{List, [], ◌∷◌, subst, sym, take}
use Rattle.std.proofs.lemmas.List.{take_all}
use Rattle.std.proofs.lemmas.Result.{err_from_is_err_and}
use Rattle.dr_plan.specs.Sweep.{Tried}
use Rattle.dr_sweep.specs.Apart.{FailsInStep, GoesAllApart, GoesApart, StandAlone}
use Rattle.dr_sweep.specs.Seen.{run_seen}
use Rattle.dr_sweep.proofs.ApartLemmas.{alone-at, apart-begin, apart-halts, apart-on, lines-on, none-alone}
use Rattle.dr_sweep.proofs.apart.take_steps_apart.Goals as goal

pub loop-step-init : goal.loop-step-init
loop-step-init c = record {
  stays = c.requires.run;
  lines = c.requires.lines;
  alone = subst StandAlone (sym c.new-tried.ensures.items) none-alone;
  goes = subst (λ (ms : List Tried). GoesAllApart (run_seen c.args.run.now) (run_seen c.args.run.now) (take 0 c.args.steps.now) ms) (sym c.new-tried.ensures.items) (apart-begin (run_seen c.args.run.now) c.args.steps.now);
}

pub take_step_apart-requires-clause-alone : goal.take_step_apart-requires-clause-alone
take_step_apart-requires-clause-alone c =
    subst (λ (t : Tried). StandAlone (t ∷ [])) (sym c.step-item.is) (alone-at c.args.steps.now c.loop-step.step-index c.step-item.result c.loop-step-test.true c.requires.alone)

pub returns-in_err-take_step_apart-clause-fails : goal.returns-in_err-take_step_apart-clause-fails
returns-in_err-take_step_apart-clause-fails c =
    let mid = run_seen c.loop-step.run in let new = run_seen c.take_step_apart.new.run in let fault = c.in_err-take_step_apart.field-0.0 in
    let out = err_from_is_err_and c.from_residual.result c.from_residual.ensures.1 in
    rw (out.1, out.2)
    (apart-halts (run_seen c.args.run.now) c.args.steps.now mid c.loop-step.tried.items c.loop-step.step-index c.step-item.result c.loop-step-test.true c.loop-step.invariant.goes new fault
    (subst (λ (t : Tried). FailsInStep mid new t fault) c.step-item.is c.in_err-take_step_apart.ensures.fails))

pub loop-step-preserved : goal.loop-step-preserved
loop-step-preserved c =
    let mid = run_seen c.loop-step.run in let new = run_seen c.take_step_apart.new.run in let made = c.loop-step.tried.items in let on = c.take_step_apart.new.tried.items in
    record {
      stays = c.in_ok-take_step_apart.ensures.stays;
      lines = lines-on mid new c.step-item.result made on c.loop-step.invariant.lines c.in_ok-take_step_apart.ensures.goes;
      alone = c.in_ok-take_step_apart.ensures.alone;
      goes =
          apart-on (run_seen c.args.run.now) c.args.steps.now mid made c.loop-step.step-index c.step-item.result c.loop-step-test.true c.loop-step.invariant.goes new on
          (subst (λ (t : Tried). GoesApart mid new t made on) c.step-item.is c.in_ok-take_step_apart.ensures.goes);
    }

pub returns-clause-goes : goal.returns-clause-goes
returns-clause-goes c =
    subst (λ (ts : List Tried). GoesAllApart (run_seen c.args.run.now) (run_seen c.loop-step.run) ts c.loop-step.tried.items) (take_all c.loop-step.step-index c.args.steps.now c.loop-step-test.false) c.loop-step.invariant.goes
