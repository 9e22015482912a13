use Rattle.std.proofs.Common.{[], ◌∷◌, refl, subst}
use Rattle.dr_sweep.specs.declared.point.Came.{Came}
use Rattle.dr_sweep.specs.Parts.{Tells}
use Rattle.dr_sweep.specs.declared.reach.FirstStop.TheVariants.{Own}
use Rattle.dr_sweep.proofs.RowLemmas.{adds-reached, adds-missed}
use Rattle.dr_sweep.proofs.rows.add_row.Goals as goal

pub push_told-requires : goal.push_told-requires
push_told-requires c = (subst (λ (came : Came). Tells c.args.plan.now c.args.point came) c.in-Struck.is c.in_ok-told.ensures.tells).1

pub returns-in_ok-push_told-in-Struck-clause-adds : goal.returns-in_ok-push_told-in-Struck-clause-adds
returns-in_ok-push_told-in-Struck-clause-adds c =
    let tells = subst (λ (came : Came). Tells c.args.plan.now c.args.point came) c.in-Struck.is c.in_ok-told.ensures.tells in
    adds-reached c.args.plan.now c.args.point Own c.args.rows.now.items c.push_told.new.rows.items tells.0 refl c.in_ok-push_told-in-Struck.ensures

pub returns-in-Missed-clause-adds : goal.returns-in-Missed-clause-adds
returns-in-Missed-clause-adds c =
    let tells = subst (λ (came : Came). Tells c.args.plan.now c.args.point came) c.in-Missed.is c.in_ok-told.ensures.tells in
    adds-missed c.args.plan.now c.args.point (c.args.point ∷ []) c.in-Missed.stop c.args.rows.now.items c.args.rows.now.items tells.0 tells.1 refl
