use Rattle.std.proofs.Common.{sym, ◌∙◌, true, false}
use Rattle.dr_cgflash.proofs.StepLemmas.{free-step}
use Rattle.dr_cgflash.proofs.passing.free_next.Goals as goal

pub returns-then-not-is_held_in : goal.returns-then-not-is_held_in
returns-then-not-is_held_in g c =
    free-step (g.P.Plant.state c.args.plant.now) c.args.config.now c.args.l.0 c.args.v c.requires.defined c.is_held_in.ensures.server false (sym c.is_held_in.ensures.test ∙ c.if-not-is_held_in.true)

pub returns : goal.returns
returns g c =
    free-step (g.P.Plant.state c.args.plant.now) c.args.config.now c.args.l.0 c.args.v c.requires.defined c.is_held_in.ensures.server true (sym c.is_held_in.ensures.test ∙ c.if-not-is_held_in.false)
