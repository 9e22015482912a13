use Rattle.std.proofs.Common.{List, [], sym, subst}
use Rattle.std.proofs.lemmas.Result.{IfErr-weaker, IfOk-weaker, err_from_is_err_and}
use Rattle.dr_plan.specs.Pieces.{IsTextOf}
use Rattle.dr_plan.specs.Sweep.{Tried}
use Rattle.dr_sweep.specs.Apart.{FailsInSteps, GoesAllApart, StandAlone}
use Rattle.dr_sweep.specs.Seen.{run_seen}
use Rattle.dr_sweep.proofs.ApartLemmas.{has-lines, plan-apart, plan-halts, setup-halts}
use Rattle.dr_sweep.proofs.apart.steps_apart.Goals as goal

pub returns-in_err-carry-clause-fails : goal.returns-in_err-carry-clause-fails
returns-in_err-carry-clause-fails c =
    let start = run_seen c.new-run.result in let plan = c.args.plan.now in
    let is = subst (IsTextOf plan.setup) (sym c.bytes.ensures) c.in_ok-setup.ensures in
    let out = err_from_is_err_and c.from_residual-in_err-carry.result c.from_residual-in_err-carry.ensures.1 in
    rw (out.1, out.2) (setup-halts plan start.plant c.new-run.ensures.fresh (run_seen c.carry.new.self) c.in_err-carry.field-0.0 (c.in_err-carry.ensures.fails start.plant [] plan.setup [] c.new-run.ensures.begins is))

pub take_steps_apart-requires-clause-lines : goal.take_steps_apart-requires-clause-lines
take_steps_apart-requires-clause-lines c =
    let start = run_seen c.new-run.result in let plan = c.args.plan.now in
    let is = subst (IsTextOf plan.setup) (sym c.bytes.ensures) c.in_ok-setup.ensures in
    has-lines plan start.plant c.new-run.ensures.fresh start (run_seen c.carry.new.self) c.new-run.ensures.begins (c.in_ok-carry.ensures.goes start.plant [] plan.setup [] c.new-run.ensures.begins is)

pub take_steps_apart-requires-clause-alone : goal.take_steps_apart-requires-clause-alone
take_steps_apart-requires-clause-alone c = subst StandAlone (sym c.tried.ensures) (c.requires.tried, c.requires.one)

pub returns-clause-apart : goal.returns-clause-apart
returns-clause-apart c =
    let start = run_seen c.new-run.result in let plan = c.args.plan.now in let mid = run_seen c.carry.new.self in let new = run_seen c.take_steps_apart.new.run in
    let is = subst (IsTextOf plan.setup) (sym c.bytes.ensures) c.in_ok-setup.ensures in
    IfOk-weaker c.take_steps_apart.result _ _
    (λ tried goes.
    plan-apart plan start.plant c.new-run.ensures.fresh start mid c.new-run.ensures.begins (c.in_ok-carry.ensures.goes start.plant [] plan.setup [] c.new-run.ensures.begins is) new tried.items
    (subst (λ (ts : List Tried). GoesAllApart mid new ts tried.items) c.tried.ensures goes)) c.take_steps_apart.ensures.goes

pub returns-clause-fails : goal.returns-clause-fails
returns-clause-fails c =
    let start = run_seen c.new-run.result in let plan = c.args.plan.now in let mid = run_seen c.carry.new.self in let new = run_seen c.take_steps_apart.new.run in
    let is = subst (IsTextOf plan.setup) (sym c.bytes.ensures) c.in_ok-setup.ensures in
    IfErr-weaker c.take_steps_apart.result _ _
    (λ fault fails.
    plan-halts plan start.plant c.new-run.ensures.fresh start mid c.new-run.ensures.begins (c.in_ok-carry.ensures.goes start.plant [] plan.setup [] c.new-run.ensures.begins is) new fault
    (subst (λ (ts : List Tried). FailsInSteps mid new ts fault) c.tried.ensures fails)) c.take_steps_apart.ensures.fails
