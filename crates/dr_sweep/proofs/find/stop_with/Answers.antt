use Rattle.std.proofs.Common.{sym, subst}
use Rattle.std.specs.Prelude.{IsSome}
use Rattle.dr_plan.specs.declared.points.Point.{Point}
use Rattle.dr_plan.specs.declared.points.Torn.TheVariants.{Unchanged}
use Rattle.dr_plan.specs.Points.{script_of}
use Rattle.dr_sweep.proofs.PartLemmas.{cut-script}
use Rattle.dr_sweep.proofs.find.stop_with.Goals as goal

pub stop_at-requires-clause-script : goal.stop_at-requires-clause-script
stop_at-requires-clause-script c =
    subst (λ (p : Point). IsSome (script_of c.args.plan.now p)) (sym c.cut_at-point.ensures) (cut-script c.args.plan.now c.args.disaster c.args.place c.args.server Unchanged c.args.writes.now c.requires.is_of)
