use Rattle.std.proofs.Common.{sym, subst}
use Rattle.std.proofs.lemmas.Result.{IfOk-weaker}
use Rattle.dr_model.specs.declared.step.Step.{Step}
use Rattle.dr_laws_runs.specs.Walks.{ADrain, IsPartOf}
use Rattle.dr_sweep.specs.Apart.{IsPartWay, drained_by}
use Rattle.dr_sweep.specs.Seen.{run_seen}
use Rattle.dr_sweep.proofs.WayLemmas.{drained-none, drained-way}
use Rattle.dr_sweep.proofs.run.PointRun.drain_member.Goals as goal

pub returns-then-not-is_copying-clause-adds : goal.returns-then-not-is_copying-clause-adds
returns-then-not-is_copying-clause-adds c = drained-none (run_seen c.args.self.now) c.args.s.0 c.args.parts.now.items c.args.member (sym c.if-not-is_copying.ensures)

pub carry_part-requires-clause-of_run : goal.carry_part-requires-clause-of_run
carry_part-requires-clause-of_run c = subst (IsPartOf c.args.s.0) (sym c.drain_of-step.ensures.is) (ADrain c.args.member.a.0)

pub returns-clause-adds : goal.returns-clause-adds
returns-clause-adds c =
    let old = run_seen c.args.self.now in
    IfOk-weaker c.carry_part.result _ _
    (λ on adds. adds (drained_by c.args.member) (subst (λ (step : Step). IsPartWay old step (drained_by c.args.member)) (sym c.drain_of-step.ensures.is) (drained-way old c.args.member (sym c.if-not-is_copying.ensures)))) c.carry_part.ensures.adds
