use Rattle.std.proofs.Common.{sym, subst}
use Rattle.dr_freeze.specs.declared.changes.Change.{Change}
use Rattle.dr_freeze.specs.declared.changes.Change.TheVariants.{Freeze, Thaw}
use Rattle.dr_freeze.specs.Changes.{IsStep}
use Rattle.dr_freeze.proofs.StepLemmas.{step-by}
use Rattle.dr_freeze.proofs.changes.change_next.Goals as goal

pub returns-in-Freeze : goal.returns-in-Freeze
returns-in-Freeze g c =
    let s = g.P.Plant.state c.args.plant.now in
    let t = c.args.config.now in
    subst (λ (x : Change). IsStep s t x c.args.l.0 c.args.m.0 c.args.v.0 c.freeze_next.result) (sym c.in-Freeze.is)
    (subst (IsStep s t Freeze c.args.l.0 c.args.m.0 c.args.v.0) (sym c.freeze_next.ensures.is) (step-by s t c.args.l.0 c.args.m.0 c.args.v c.requires.defined c.freeze_next.ensures.server Freeze))

pub returns-in-Thaw : goal.returns-in-Thaw
returns-in-Thaw g c =
    let s = g.P.Plant.state c.args.plant.now in
    let t = c.args.config.now in
    subst (λ (x : Change). IsStep s t x c.args.l.0 c.args.m.0 c.args.v.0 c.thaw_next.result) (sym c.in-Thaw.is)
    (subst (IsStep s t Thaw c.args.l.0 c.args.m.0 c.args.v.0) (sym c.thaw_next.ensures.is) (step-by s t c.args.l.0 c.args.m.0 c.args.v c.requires.defined c.thaw_next.ensures.server Thaw))
