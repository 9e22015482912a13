use Rattle.std.proofs.Common.{sym, subst, ◌∙◌}
use Rattle.std.specs.Prelude.{IsSome}
use Rattle.dr_plan.specs.declared.points.Point.{Point}
use Rattle.dr_plan.specs.declared.points.Torn.TheVariants.{Unchanged, Zeros, Ones}
use Rattle.dr_plan.specs.Points.{script_of}
use Rattle.dr_sweep.proofs.PartLemmas.{cut-script}
use Rattle.dr_sweep.proofs.RowLemmas.{adds-write, adds-no-write}
use Rattle.dr_sweep.proofs.rows.add_write.Goals as goal

pub add_row-requires : goal.add_row-requires
add_row-requires c =
    subst (λ (p : Point). IsSome (script_of c.args.plan.now p)) (sym c.cut_at-unchanged.ensures)
    (cut-script c.args.plan.now c.args.disaster c.args.place c.args.server Unchanged c.args.writes.now c.requires.is_of)

pub add_row-requires-2 : goal.add_row-requires-2
add_row-requires-2 c =
    subst (λ (p : Point). IsSome (script_of c.args.plan.now p)) (sym c.cut_at-zeros.ensures)
    (cut-script c.args.plan.now c.args.disaster c.args.place c.args.server Zeros c.args.writes.now c.requires.is_of)

pub add_row-requires-3 : goal.add_row-requires-3
add_row-requires-3 c =
    subst (λ (p : Point). IsSome (script_of c.args.plan.now p)) (sym c.cut_at-ones.ensures)
    (cut-script c.args.plan.now c.args.disaster c.args.place c.args.server Ones c.args.writes.now c.requires.is_of)

pub returns-then-not-is_own-clause-adds : goal.returns-then-not-is_own-clause-adds
returns-then-not-is_own-clause-adds c =
    adds-no-write c.args.plan.now c.args.disaster c.args.place c.args.server c.args.writes.now _ _ _ c.in_ok-stop.stop c.cut_at-unchanged.ensures (sym c.is_own.ensures ∙ c.if-not-is_own.true) c.in_ok-stop.ensures.adds

pub returns-clause-adds : goal.returns-clause-adds
returns-clause-adds c =
    adds-write c.args.plan.now c.args.disaster c.args.place c.args.server c.args.writes.now _ _ _ _ _ _ _ c.in_ok-stop.stop _ _ c.cut_at-unchanged.ensures c.cut_at-zeros.ensures c.cut_at-ones.ensures
    (sym c.is_own.ensures ∙ c.if-not-is_own.false) c.in_ok-stop.ensures.adds c.in_ok-add_row.ensures.adds c.in_ok-add_row-2.ensures.adds
